-- With a digit more, or none.
use Rattle.class_read.specs.Totals.{number_of}
use Rattle.class_read.specs.Branches.{picks, grown_is}
use Rattle.class_read.proofs.number.Goals as goal

pub returns-then-is_digit : goal.returns-then-is_digit
unfolding number_of
returns-then-is_digit c = search (picks, grown_is)

pub returns : goal.returns
unfolding number_of
returns c = search picks
