-- `orient::minors::sum` meets its contract: both sums are at most the sizes together. Assumes nothing.
use native.Mathlib.Omega.{arith}
use Rattle.laws.specs.Size.{fit, kept, var, plus}
use Rattle.orient.proofs.minors.sum.Goals as goal

pub overflow_add-result : goal.overflow_add-result
overflow_add-result c = fit (plus (var c.ranges.a) (var c.ranges.b) (omega arith))

pub overflow_add-result-2 : goal.overflow_add-result-2
overflow_add-result-2 c = let p = plus (var c.ranges.a) (var c.ranges.b) (omega arith) in fit (plus p (var c.ranges.c) (omega arith))

pub returns : goal.returns
returns c = let p = plus (var c.ranges.a) (var c.ranges.b) (omega arith) in kept (plus p (var c.ranges.c) (omega arith))
