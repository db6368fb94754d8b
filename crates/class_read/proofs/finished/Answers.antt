-- One more at the start of the form, or as many.
use Rattle.class_read.specs.Totals.{finished}
use Rattle.class_read.specs.Branches.{picks}
use Rattle.class_read.proofs.finished.Goals as goal

pub returns-then-at-eq0 : goal.returns-then-at-eq0
unfolding finished
returns-then-at-eq0 c = search picks

pub returns-else-at-eq0 : goal.returns-else-at-eq0
unfolding finished
returns-else-at-eq0 c = search picks
