-- The judge of the first six bytes.
use borrow.Author.Rules.{rules}
use Rattle.class_block.specs.Header.{unheaded, headed_six, never_six}
use Rattle.class_block.proofs.is_headed.Goals as goal

pub returns-then-s-lt6 : goal.returns-then-s-lt6
returns-then-s-lt6 c = search unheaded

pub returns-in-Err : goal.returns-in-Err
returns-in-Err c = search (headed_six, rules)

pub returns : goal.returns
returns c = search (never_six, rules)
