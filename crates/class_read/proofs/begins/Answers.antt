-- At the start of a report, the byte decides.
use Rattle.class_read.specs.Totals.{begins}
use Rattle.class_read.specs.Branches.{picks}
use Rattle.class_read.proofs.begins.Goals as goal

pub returns-then-at-eq0 : goal.returns-then-at-eq0
unfolding begins
returns-then-at-eq0 c = search picks

pub returns : goal.returns
unfolding begins
returns c = search picks
