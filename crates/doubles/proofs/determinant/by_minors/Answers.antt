-- The expression is that of the definition.
use Rattle.std.proofs.Common.{refl}
use Rattle.doubles.specs.Determinant.{minors_of}
use Rattle.doubles.proofs.determinant.by_minors.Goals as goal

pub returns : goal.returns
unfolding minors_of
returns c = refl
