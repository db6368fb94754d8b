-- The planes of the faces opposite, over whatever the table held.
use Rattle.scene.specs.Arrays.{row_in, face_in}
use Rattle.survey_narrow.specs.Sides.{made}
use Rattle.survey_narrow.proofs.setup.make_planes.Goals as goal

pub returns : goal.returns
returns c =
    made (row_in c.args.rows.now) (face_in c.args.corners.now) c.args.k c.args.planes.now c.requires.room c.requires.faces.1 c.fill.ensures
