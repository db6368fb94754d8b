-- `orient::minors::three` meets its contract: each number formed on the way is at most the sum of the products' sizes. Assumes nothing.
use native.Mathlib.Omega.{arith}
use Rattle.laws.specs.Size.{fit, kept, var, times, less, plus}
use Rattle.orient.proofs.minors.alternating.Goals as goal

pub overflow_mul-result : goal.overflow_mul-result
overflow_mul-result c = fit (times (var c.ranges.a) (var c.ranges.b) (omega arith))

pub overflow_mul-result-2 : goal.overflow_mul-result-2
overflow_mul-result-2 c = fit (times (var c.ranges.c) (var c.ranges.d) (omega arith))

pub overflow_sub-result : goal.overflow_sub-result
overflow_sub-result c =
    let p = times (var c.ranges.a) (var c.ranges.b) (omega arith) in
    let q = times (var c.ranges.c) (var c.ranges.d) (omega arith) in
    fit (less p q (omega arith))

pub overflow_mul-result-3 : goal.overflow_mul-result-3
overflow_mul-result-3 c = fit (times (var c.ranges.e) (var c.ranges.f) (omega arith))

pub overflow_add-result : goal.overflow_add-result
overflow_add-result c =
    let p = times (var c.ranges.a) (var c.ranges.b) (omega arith) in
    let q = times (var c.ranges.c) (var c.ranges.d) (omega arith) in
    let r = times (var c.ranges.e) (var c.ranges.f) (omega arith) in
    fit (plus (less p q (omega arith)) r (omega arith))

pub returns : goal.returns
returns c =
    let p = times (var c.ranges.a) (var c.ranges.b) (omega arith) in
    let q = times (var c.ranges.c) (var c.ranges.d) (omega arith) in
    let r = times (var c.ranges.e) (var c.ranges.f) (omega arith) in
    kept (plus (less p q (omega arith)) r (omega arith))
