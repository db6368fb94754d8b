-- The loop's invariant: each candidate that is left is one, and what is kept so far, with what is kept of those, is what is kept of all.
-- The measure is the word that is left.
use mathlib.Core.Path.{◌≡◌}
use Prim.Native.Nat.{◌+◌, ◌≤◌}
use Rattle.scene.specs.Arrays.{row_in, face_in}
use Rattle.survey_sides.specs.Crossing.{Candidates, crossed_of}
use Rattle.survey_sides.proofs.crossed.Given as goal

abbrev pub invariant-loop-left : goal.invariant-loop-left
invariant-loop-left g l =
    (l.left ≤ l.candidates) × Candidates l.n (row_in l.rows) (face_in l.corners) l.u l.v l.first l.left
    × (l.word + crossed_of l.n (row_in l.rows) (face_in l.corners) l.u l.v l.first l.left ≡ crossed_of l.n (row_in l.rows) (face_in l.corners) l.u l.v l.first l.candidates)

abbrev pub decreases-loop-left : goal.decreases-loop-left
decreases-loop-left g l = l.left
