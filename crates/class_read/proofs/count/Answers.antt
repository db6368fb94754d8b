-- A number that ends is added, and its pairs.
use native.Mathlib.Omega.{arith}
use Rattle.class_read.specs.Totals.{counted_of}
use Rattle.class_read.specs.Branches.{picks, ends_from}
use Rattle.class_read.proofs.count.Goals as goal

pub overflow_sub-c : goal.overflow_sub-c
overflow_sub-c c = omega (arith, ends_from _ _ c.ends.ensures c.if-ends.true)

pub returns-then-ends : goal.returns-then-ends
unfolding counted_of
returns-then-ends c = search picks

pub returns-else-ends : goal.returns-else-ends
unfolding counted_of
returns-else-ends c = search picks
