-- The mask of an edge against a solid's faces, and when a point is enclosed. Assumes nothing.
use Rattle.std.specs.Prelude.{Bool, ℕ}
use Rattle.scene.specs.declared.Row.{Row}
use Rattle.scene.specs.declared.Face.{Face}
use Rattle.pierce_masks.specs.Faces.{mask_by, is_odd}
use Rattle.pierce.specs.Formula.{pierced}

-- the mask of u, v against the solid, in a scene of n points
abbrev pub mask_against : (n : ℕ) → (ℕ → Row) → (ℕ → Face) → (u v first count : ℕ) → ℕ
mask_against n row face u v = mask_by (pierced n row u v) face

-- the point u is enclosed by the solid: its mask toward the far point, the last of the n points, has an odd number of ones
abbrev pub enclosed : (n : ℕ) → (ℕ → Row) → (ℕ → Face) → (u first count : ℕ) → Bool
enclosed n row face u first count = is_odd (mask_against n row face u n first count)
