-- At the end of its letter, or as it was.
use Rattle.class_read.specs.Totals.{whole_of}
use Rattle.class_read.specs.Branches.{picks}
use Rattle.class_read.proofs.whole.Goals as goal

pub returns-then-c-eq87 : goal.returns-then-c-eq87
unfolding whole_of
returns-then-c-eq87 c = search picks

pub returns-else-c-eq87 : goal.returns-else-c-eq87
unfolding whole_of
returns-else-c-eq87 c = search picks

pub returns : goal.returns
unfolding whole_of
returns c = search picks
