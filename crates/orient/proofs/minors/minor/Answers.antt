-- `orient::minors::cross` meets its contract: each product and their difference are at most the sum of the products' sizes.
-- Assumes nothing.
use native.Mathlib.Omega.{arith}
use Rattle.laws.specs.Size.{fit, kept, var, times, less}
use Rattle.orient.proofs.minors.minor.Goals as goal

pub overflow_mul-result : goal.overflow_mul-result
overflow_mul-result c = fit (times (var c.ranges.a) (var c.ranges.d) (omega arith))

pub overflow_mul-result-2 : goal.overflow_mul-result-2
overflow_mul-result-2 c = fit (times (var c.ranges.b) (var c.ranges.c) (omega arith))

pub overflow_sub-result : goal.overflow_sub-result
overflow_sub-result c =
    let p = times (var c.ranges.a) (var c.ranges.d) (omega arith) in
    let q = times (var c.ranges.b) (var c.ranges.c) (omega arith) in
    fit (less p q (omega arith))

pub returns : goal.returns
returns c =
    let p = times (var c.ranges.a) (var c.ranges.d) (omega arith) in
    let q = times (var c.ranges.b) (var c.ranges.c) (omega arith) in
    kept (less p q (omega arith))
