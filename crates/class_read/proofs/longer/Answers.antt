-- By the first byte of a report, or as it was.
use Rattle.class_read.specs.Branches.{picks}
use Rattle.class_read.proofs.longer.Goals as goal

pub returns-then-begins : goal.returns-then-begins
returns-then-begins c = search picks

pub returns-else-begins : goal.returns-else-begins
returns-else-begins c = search picks
