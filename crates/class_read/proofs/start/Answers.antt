-- By the first byte of a report.
use Rattle.class_read.specs.Totals.{start_of}
use Rattle.class_read.specs.Branches.{picks}
use Rattle.class_read.proofs.start.Goals as goal

pub returns-then-begins : goal.returns-then-begins
unfolding start_of
returns-then-begins c = search picks

pub returns-else-begins : goal.returns-else-begins
unfolding start_of
returns-else-begins c = search picks
