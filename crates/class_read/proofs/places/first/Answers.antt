-- A digit leads on.
use Rattle.class_read.specs.Totals.{first_at}
use Rattle.class_read.specs.Branches.{picks}
use Rattle.class_read.proofs.places.first.Goals as goal

pub returns-then-is_digit : goal.returns-then-is_digit
unfolding first_at
returns-then-is_digit c = search picks

pub returns-else-is_digit : goal.returns-else-is_digit
unfolding first_at
returns-else-is_digit c = search picks
