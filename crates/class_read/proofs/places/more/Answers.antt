-- A digit stays, and any other byte stands behind the number.
use Rattle.class_read.specs.Totals.{more_at}
use Rattle.class_read.specs.Branches.{picks}
use Rattle.class_read.proofs.places.more.Goals as goal

pub returns-then-is_digit : goal.returns-then-is_digit
unfolding more_at
returns-then-is_digit c = search picks

pub returns-else-is_digit : goal.returns-else-is_digit
unfolding more_at
returns-else-is_digit c = search picks
