-- Each turn stores the words of one more point; a slope that is in the table stays right.
use mathlib.Core.Path.{◌≡◌}
use Rattle.scene.specs.Arrays.{row_in, face_in}
use Rattle.survey_sides.specs.Tables.{masks_from}
use Rattle.survey_sides.specs.Sides.{sides_of}
use Rattle.survey_sides.specs.Slopes.{Sloped}
use Rattle.survey_sides.proofs.point_masks.fill_points.Given as goal

abbrev pub invariant-loop-i : goal.invariant-loop-i
invariant-loop-i l =
    (l.words ≡ masks_from (sides_of (row_in l.rows) (face_in l.corners) l.first l.count) l.low l.i l.initial.words)
    × Sloped (row_in l.rows) (face_in l.corners) l.slopes
