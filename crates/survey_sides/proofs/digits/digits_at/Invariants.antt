-- The loop's invariant: the words are the masks of the faces behind the first k.
use mathlib.Core.Path.{◌≡◌}
use Prim.Native.Nat.{◌+◌, ◌-◌}
use Rattle.scene.specs.Arrays.{row_in, face_in}
use Rattle.pierce_masks.specs.Faces.{mask_by}
use Rattle.survey_sides.specs.Ties.{leads, flat}
use Rattle.survey_sides.proofs.digits.digits_at.Given as goal

abbrev pub invariant-loop-k : goal.invariant-loop-k
invariant-loop-k l =
    (l.above ≡ mask_by (leads (row_in l.rows) l.t) (face_in l.corners) (l.first + l.k) (l.count - l.k))
    × (l.tied ≡ mask_by (flat (row_in l.rows) l.t) (face_in l.corners) (l.first + l.k) (l.count - l.k))
