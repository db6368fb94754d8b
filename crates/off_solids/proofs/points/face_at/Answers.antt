-- Corner by corner.
use native.Mathlib.Omega.{arith}
use Rattle.off_solids.specs.ReadOf.{corners_told}
use Rattle.off_solids.proofs.points.face_at.Goals as goal

pub returns : goal.returns
returns c = (
  corners_told _ _ c.pass-p.ensures.0 c.pass-q.ensures.0 c.pass-r.ensures.0
      c.corner_at.ensures.0 c.corner_at-2.ensures.0 c.corner_at-3.ensures.0,
  omega arith,
  omega arith,
  omega arith,
)
