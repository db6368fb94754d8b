-- The sum is at most the sizes together.
use native.Mathlib.Omega.{arith}
use Rattle.laws.specs.Size.{fit, kept, var, plus}
use Rattle.survey_sides.proofs.slopes.plus.Goals as goal

pub overflow_add-result : goal.overflow_add-result
overflow_add-result c = fit (plus (var c.ranges.a) (var c.ranges.b) (omega arith))

pub returns : goal.returns
returns c = kept (plus (var c.ranges.a) (var c.ranges.b) (omega arith))
