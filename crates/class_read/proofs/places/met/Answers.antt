-- The byte itself leads on.
use Rattle.class_read.specs.Totals.{met_at}
use Rattle.class_read.specs.Branches.{picks}
use Rattle.class_read.proofs.places.met.Goals as goal

pub returns-then-form-at : goal.returns-then-form-at
unfolding met_at
returns-then-form-at c = search picks

pub returns-else-form-at : goal.returns-else-form-at
unfolding met_at
returns-else-form-at c = search picks

pub returns-else-at-form : goal.returns-else-at-form
unfolding met_at
returns-else-at-form c = search picks
