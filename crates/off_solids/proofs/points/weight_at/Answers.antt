-- Told, or 1.
use native.Mathlib.Omega.{arith}
use Rattle.off_solids.specs.ReadOf.{number_told, weight_told, weight_one}
use Rattle.off_solids.proofs.points.weight_at.Goals as goal

pub returns-then-per-eq4 : goal.returns-then-per-eq4
returns-then-per-eq4 c =
    weight_told _ _ _ c.if-per-eq4.true
    (number_told _ _ c.next-w.ensures.0 c.next-w.ensures.1 127 (omega arith) c.signed_number.ensures.0 c.signed_number.ensures.1)

pub returns : goal.returns
returns c = weight_one _ _ _ c.if-per-eq4.false
