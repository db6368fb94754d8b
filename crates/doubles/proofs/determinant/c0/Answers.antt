-- The expression, with zero added, is c0 of four points.
use Rattle.std.specs.Float.Ieee.{of_bits}
use Rattle.doubles.specs.Determinant.{c0_worked}
use Rattle.doubles.proofs.determinant.c0.Goals as goal

pub returns : goal.returns
unfolding of_bits
returns c = search c0_worked
