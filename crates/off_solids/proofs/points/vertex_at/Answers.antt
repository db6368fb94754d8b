-- Number by number.
use native.Mathlib.Omega.{arith}
use Rattle.off_solids.specs.ReadOf.{number_told, row_told}
use Rattle.off_solids.proofs.points.vertex_at.Goals as goal

pub returns : goal.returns
returns c =
    row_told _ _ _ c.next-x.ensures.1 c.next-y.ensures.1 c.next-z.ensures.1
    (record { x = c.signed_number.result; y = c.signed_number-2.result; z = c.signed_number-3.result; w = c.weight_at.result })
    (number_told _ _ c.next-x.ensures.0 c.next-x.ensures.1 32767 (omega arith) c.signed_number.ensures.0
    c.signed_number.ensures.1)
    (number_told _ _ c.next-y.ensures.0 c.next-y.ensures.1 32767 (omega arith) c.signed_number-2.ensures.0
    c.signed_number-2.ensures.1)
    (number_told _ _ c.next-z.ensures.0 c.next-z.ensures.1 32767 (omega arith) c.signed_number-3.ensures.0
    c.signed_number-3.ensures.1)
    c.weight_at.ensures
