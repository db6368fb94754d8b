-- The mark, and a byte for each count.
use mathlib.Core.Path.{ap, ◌∙◌}
use lib.ListN.{length, length-set}
use native.Mathlib.Omega.{arith}
use Rattle.scene.specs.Written.{two_length, header_stored}
use Rattle.scene.proofs.write.put_header.Goals as goal

pub bounds-out-3 : goal.bounds-out-3
bounds-out-3 c = simp length-set (omega (arith, ap length c.put_two.ensures ∙ two_length _ _ _))

pub bounds-out-4 : goal.bounds-out-4
bounds-out-4 c =
    simp length-set (omega (arith, ap length c.put_two.ensures ∙ two_length _ _ _))

pub bounds-out-5 : goal.bounds-out-5
bounds-out-5 c =
    simp length-set (omega (arith, ap length c.put_two.ensures ∙ two_length _ _ _))

pub returns : goal.returns
returns c = header_stored _ _ c.put_two.ensures
