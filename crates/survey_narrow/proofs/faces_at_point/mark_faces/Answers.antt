use mathlib.Core.Path.{◌∙◌}
use Rattle.survey_narrow.specs.Marks.{faces_more, none_marked}
use Rattle.survey_narrow.proofs.faces_at_point.mark_faces.Goals as goal

pub loop-i-init : goal.loop-i-init
loop-i-init c = none_marked _ _ _ _

pub loop-i-preserved : goal.loop-i-preserved
loop-i-preserved c =
    c.mark_face.ensures ∙ faces_more _ _ _ _ _ c.loop-i.invariant c.face_in.ensures
