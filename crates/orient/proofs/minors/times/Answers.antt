-- `orient::minors::times` meets its contract: the product has the size that is allowed. Assumes nothing.
use native.Mathlib.Omega.{arith}
use Rattle.laws.specs.Size.{fit, kept, var, times}
use Rattle.orient.proofs.minors.times.Goals as goal

pub overflow_mul-result : goal.overflow_mul-result
overflow_mul-result c = fit (times (var c.ranges.a) (var c.ranges.b) (omega arith))

pub returns : goal.returns
returns c = kept (times (var c.ranges.a) (var c.ranges.b) (omega arith))
