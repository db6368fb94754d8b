-- Each turn stores the words of one more face and adds them to the union, which is stored last.
use mathlib.Core.Path.{◌≡◌}
use Prim.Native.Nat.{◌+◌}
use Rattle.scene.specs.Arrays.{face_in}
use Rattle.survey_sides.specs.Tables.{masks_from}
use Rattle.survey_narrow.specs.Cover.{cut_in}
use Rattle.survey_narrow.specs.Union.{union_of}
use Rattle.survey_narrow.proofs.separating_faces.fill.Given as goal

abbrev pub invariant-loop-i : goal.invariant-loop-i
invariant-loop-i l =
    (l.separating ≡ masks_from (λ j. cut_in l.words (face_in l.corners (l.first + j))) 0 l.i l.initial.separating)
    × (l.any ≡ union_of (λ j. cut_in l.words (face_in l.corners (l.first + j))) l.i)
