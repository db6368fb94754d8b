-- Faces and their edges: corners, sides, and the rule that an edge lies in an even number of its solid's faces. Assumes nothing.
use Rattle.std.specs.Prelude.{◌≡◌, ◌≢◌, ◌⊎◌, ◌↔◌, Bool, true, ◌&&◌, ◌||◌, List, ℕ, ◌≤◌, ◌<◌, eqb}
use mathlib.Core.Logic.Iff
use Rattle.laws.specs.Decides.{and_iff, or_iff, eqb_iff}
use Rattle.laws.specs.Lists.{Each, Even}
use Rattle.scene.specs.declared.Face.{Face}

-- i is a corner of the face; i and j are
abbrev pub Corner : ℕ → Face → Type 0
Corner i f = (f.p ≡ i) ⊎ (f.q ≡ i) ⊎ (f.r ≡ i)

abbrev pub Both : ℕ → ℕ → Face → Type 0
Both i j f = Corner i f × Corner j f

-- the same as tests
unfoldable pub is_corner : ℕ → Face → Bool
is_corner i f = eqb f.p i || (eqb f.q i || eqb f.r i)

unfoldable pub has_both : ℕ → ℕ → Face → Bool
has_both i j f = is_corner i f && is_corner j f

pub corner_iff : (i : ℕ) (f : Face) → (is_corner i f ≡ true) ↔ Corner i f
unfolding is_corner
corner_iff i f = or_iff _ _ (eqb_iff _ i) (or_iff _ _ (eqb_iff _ i) (eqb_iff _ i))

pub both_iff : (i j : ℕ) (f : Face) → (has_both i j f ≡ true) ↔ Both i j f
unfolding has_both
both_iff i j f = Iff.trans (and_iff _ _) (Iff.and (corner_iff i f) (corner_iff j f))

-- the face's three corners differ
pub record Proper (f : Face) : Type 0 where
  pub pq : f.p ≢ f.q
  pub qr : f.q ≢ f.r
  pub rp : f.r ≢ f.p

-- the numbers of a solid's vertices are those above low, up to high; a face of the solid
abbrev pub Vertex : (low high : ℕ) → ℕ → Type 0
Vertex low high i = (low < i) × (i ≤ high)

pub record FaceOf (low high : ℕ) (f : Face) : Type 0 where
  pub p : Vertex low high f.p
  pub q : Vertex low high f.q
  pub r : Vertex low high f.r
  pub proper : Proper f

-- X at each of the face's three sides
abbrev pub Sides : (ℕ → ℕ → Type 0) → Face → Type 0
Sides X f = X f.p f.q × X f.q f.r × X f.r f.p

-- the edge of i and j: the number of faces that have both is even
abbrev pub EdgeOk : List Face → ℕ → ℕ → Type 0
EdgeOk fs i j = Even (Both i j) fs

-- the rule of edges, for each side of each face
abbrev pub EdgesOk : List Face → Type 0
EdgesOk fs = Each (Sides (EdgeOk fs)) fs
