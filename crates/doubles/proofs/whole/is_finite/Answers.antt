-- A finite double less itself is zero.
use Rattle.std.specs.Float.Ieee.{of_bits}
use Rattle.doubles.specs.Fraction.{finite_test}
use Rattle.doubles.proofs.whole.is_finite.Goals as goal

pub returns : goal.returns
unfolding of_bits
returns c = finite_test c.args.x
