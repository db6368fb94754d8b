-- Each turn stores the words of one more vertex, as long as it lies in no plane.
use mathlib.Core.Path.{◌≡◌}
use Rattle.scene.specs.Arrays.{row_in, face_in}
use Rattle.survey_sides.specs.Tables.{masks_from}
use Rattle.survey_sides.specs.Sides.{sides_of}
use Rattle.survey_sides.proofs.point_masks.fill_clear.Given as goal

abbrev pub invariant-loop-i : goal.invariant-loop-i
invariant-loop-i l =
    l.words ≡ masks_from (sides_of (row_in l.rows) (face_in l.corners) l.other l.others) l.low l.i l.initial.words
