-- Behind the divisor alone.
use Rattle.class_read.specs.Totals.{paired}
use Rattle.class_read.specs.Branches.{picks}
use Rattle.class_read.proofs.add_pairs.Goals as goal

pub returns-then-c-eq81 : goal.returns-then-c-eq81
unfolding paired
returns-then-c-eq81 c = search picks

pub returns-else-c-eq81 : goal.returns-else-c-eq81
unfolding paired
returns-else-c-eq81 c = search picks
