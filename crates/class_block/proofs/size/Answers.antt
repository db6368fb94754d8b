-- The three cases of a scene's length.
use Rattle.class_block.specs.Header.{size_unheaded, size_whole, size_ended}
use Rattle.class_block.proofs.size.Goals as goal

pub returns-then-not-is_headed : goal.returns-then-not-is_headed
returns-then-not-is_headed c = search size_unheaded

pub returns-then-n-s : goal.returns-then-n-s
returns-then-n-s c = search size_whole

pub returns : goal.returns
returns c = search size_ended
