-- The loop's invariant: each tie that is left is one, and what is settled so far, with what is settled of those, is what is settled of all.
-- The measure is the word that is left.
use mathlib.Core.Path.{◌≡◌}
use Prim.Native.Nat.{◌+◌, ◌≤◌}
use Rattle.scene.specs.Arrays.{row_in, face_in}
use Rattle.survey_sides.specs.Candidates.{AtEach}
use Rattle.survey_sides.specs.Sides.{plane_in}
use Rattle.survey_sides.specs.Slopes.{Sloped}
use Rattle.survey_sides.specs.Ties.{Tied, settled_of}
use Rattle.survey_sides.proofs.ties.ties.Given as goal

abbrev pub invariant-loop-left : goal.invariant-loop-left
invariant-loop-left l =
    (l.left ≤ l.tied) × AtEach (Tied (row_in l.rows) (face_in l.corners) (plane_in l.planes l.base) l.base l.first l.t) l.left
    × (l.word + settled_of (row_in l.rows) (face_in l.corners) l.first l.t l.left ≡ settled_of (row_in l.rows) (face_in l.corners) l.first l.t l.tied)
    × Sloped (row_in l.rows) (face_in l.corners) l.slopes

abbrev pub decreases-loop-left : goal.decreases-loop-left
decreases-loop-left l = l.left
