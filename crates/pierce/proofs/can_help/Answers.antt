-- The five tests as the definition has them.
use mathlib.Core.Bool.{and_assoc, and-true}
use Rattle.pierce.specs.Formula.{can_help}
use Rattle.pierce.proofs.can_help.Goals as goal

pub returns : goal.returns
unfolding can_help
returns c = simp (and_assoc, and-true)
