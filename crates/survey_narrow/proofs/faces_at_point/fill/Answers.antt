-- One word holds all faces, or the second goes on from there.
use Rattle.scene.specs.Arrays.{face_in}
use Rattle.survey_narrow.specs.Marks.{own_one, own_two}
use Rattle.survey_narrow.proofs.faces_at_point.fill.Goals as goal

pub returns-then-count-le-WORD : goal.returns-then-count-le-WORD
returns-then-count-le-WORD c =
    own_one (face_in c.args.corners.now) c.args.first c.args.count c.args.own.now c.if-count-le-WORD.true
    c.mark_faces.ensures

pub returns : goal.returns
returns c =
    own_two (face_in c.args.corners.now) c.args.first c.args.count c.args.own.now c.if-count-le-WORD.false
    c.mark_faces-2.ensures
    c.mark_faces-3.ensures
