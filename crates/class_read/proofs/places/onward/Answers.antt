-- By the byte of the form.
use Rattle.class_read.specs.Totals.{onward}
use Rattle.class_read.specs.Branches.{picks}
use Rattle.class_read.proofs.places.onward.Goals as goal

pub returns-then-at-form : goal.returns-then-at-form
unfolding onward
returns-then-at-form c = search picks

pub returns-then-c-eq64 : goal.returns-then-c-eq64
unfolding onward
returns-then-c-eq64 c = search picks

pub returns-then-is_letter : goal.returns-then-is_letter
unfolding onward
returns-then-is_letter c = search picks

pub returns : goal.returns
unfolding onward
returns c = search picks
