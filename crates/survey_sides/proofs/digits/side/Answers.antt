-- The turned plane at the point is c0, turned.
use Rattle.laws.specs.Size.{called}
use Rattle.scene.specs.Arrays.{row_in, face_in}
use Rattle.survey_sides.specs.Sides.{plane_in}
use Rattle.survey_sides.specs.PlaneAt.{above_asked, negated_plane}
use Rattle.survey_sides.proofs.digits.side.Goals as goal

pub dot-requires : goal.dot-requires
dot-requires c =
    above_asked (row_in c.args.rows.now) (face_in c.args.corners.now) (plane_in c.args.planes.now c.args.base) c.args.t c.args.k c.requires.ready
    c.plane_at.ensures c.requires.numbers.3 c.requires.rows.0

pub returns : goal.returns
returns c =
    called c.dot.type_inv
    (negated_plane (row_in c.args.rows.now) (face_in c.args.corners.now) (plane_in c.args.planes.now c.args.base) c.args.t c.args.k c.requires.ready
    c.plane_at.ensures c.requires.numbers.3 c.dot.ensures)
