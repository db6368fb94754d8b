-- One more than the number, in its field.
use Rattle.off_solids.specs.ReadOf.{corner_told_low, corner_told_high}
use native.Mathlib.Omega.{arith}
use Rattle.off_solids.proofs.points.corner_at.Goals as goal

pub returns-then-n-lt255 : goal.returns-then-n-lt255
returns-then-n-lt255 c =
    (corner_told_low _ _ c.next-i.ensures.0 c.next-i.ensures.1 c.size-n.ensures (omega arith), omega arith)

pub returns-else-n-lt255 : goal.returns-else-n-lt255
returns-else-n-lt255 c =
    (corner_told_high _ _ c.next-i.ensures.0 c.next-i.ensures.1 c.size-n.ensures (omega arith), omega arith)
