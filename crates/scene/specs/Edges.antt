-- The edges of a solid: an edge is a pair of points, lower number first, that one of its faces has as corners. Assumes nothing.
use Rattle.std.specs.Prelude.{Bool, ℕ, ◌+◌, ◌≤◌, ◌<◌}
use Rattle.laws.specs.Range.{any_of}
use Rattle.laws.specs.Mask.{mask_of}
use Rattle.scene.specs.Faces.{FaceOf, has_both}
use Rattle.scene.specs.declared.Face.{Face}
use Rattle.scene.specs.declared.Solid.{Solid}

-- one of the solid's faces has both i and j as corners
unfoldable pub joined : (ℕ → Face) → Solid → (i j : ℕ) → Bool
joined face k i j = any_of (λ f. has_both i j (face f)) (k.face0 + 1) (k.face0 + 1 + k.faces)

-- the bits of a word, more than a solid may have vertices
abbrev pub width : ℕ
width = 64

-- the corners that the faces of u have, as a word: bit m stands for the solid's vertex number m + 1
unfoldable pub neighbours : (ℕ → Face) → Solid → ℕ → ℕ
neighbours face k u = mask_of (λ m. joined face k u (k.vert0 + 1 + m)) width

-- the solid's faces have the solid's vertices as corners
abbrev pub Corners : (ℕ → Face) → Solid → Type 0
Corners face k = (f : ℕ) → k.face0 < f → f ≤ k.face0 + k.faces → FaceOf k.vert0 (k.vert0 + k.verts) (face f)
