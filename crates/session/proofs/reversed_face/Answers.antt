use mathlib.Core.Path.{ap}
use Rattle.session.specs.Session.{reversed_face}
use Rattle.session.proofs.reversed_face.Goals as goal

pub returns : goal.returns
returns c = (
  ap reversed_face c.face_at-f.ensures.0,
  record { p = c.face_at-f.ensures.3; q = c.face_at-f.ensures.2; r = c.face_at-f.ensures.1 },
)
