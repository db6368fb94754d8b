-- Behind a letter, any byte but a digit.
use Rattle.class_read.specs.Totals.{ends}
use Rattle.class_read.specs.Branches.{picks}
use Rattle.class_read.proofs.ends.Goals as goal

pub returns-then-is_letter : goal.returns-then-is_letter
unfolding ends
returns-then-is_letter c = search picks

pub returns : goal.returns
unfolding ends
returns c = search picks
