-- Each turn marks the corners of one more face.
use mathlib.Core.Path.{◌≡◌}
use Rattle.scene.specs.Arrays.{face_in}
use Rattle.survey_narrow.specs.Marks.{faces_marked}
use Rattle.survey_narrow.proofs.faces_at_point.mark_faces.Given as goal

abbrev pub invariant-loop-i : goal.invariant-loop-i
invariant-loop-i l = l.own ≡ faces_marked (face_in l.corners) l.first l.at l.i l.initial.own
