-- The bytes that the numbers and the records of a scene are written as, and the lists that stores of them leave. Assumes nothing.
use Rattle.std.specs.Prelude.{List, [], ◌∷◌, ◌++◌, ℕ, ◌+◌, ◌-◌, ◌/◌, ◌%◌, ◌<◌, ℤ, pos, negsuc, nat_abs}
use Rattle.std.proofs.lemmas.List.Edits.{sets}
use Rattle.scene.specs.Records.{point_start, marksc}
use Rattle.scene.specs.declared.Scene.{Scene}
use Rattle.scene.specs.declared.Row.{Row}
use Rattle.scene.specs.declared.Face.{Face}

-- two bytes, low byte first
abbrev pub two : ℕ → List ℕ
two n = n % 256 ∷ n / 256 ∷ []

-- the number that stands for z: the negative numbers from half on
abbrev pub unsigned : ℕ → ℤ → ℕ
unsigned half (pos n) = n
unsigned half (negsuc n) = half + half - 1 - n

-- what stands behind a point's mark, and behind a face's
abbrev pub row_bytes : Row → List ℕ
row_bytes r = two (unsigned 32768 r.x) ++ two (unsigned 32768 r.y) ++ two (unsigned 32768 r.z) ++ unsigned 128 r.w ∷ []

abbrev pub corner_bytes : Face → List ℕ
corner_bytes f = f.p ∷ f.q ∷ f.r ∷ []

abbrev pub header_bytes : Scene → List ℕ
header_bytes c = two marksc ++ c.vertices_a ∷ c.faces_a ∷ c.vertices_b ∷ c.faces_b ∷ []

-- the four numbers of a row have room in their bytes; so have a face's corners, and the header's counts
pub record RowFits (r : Row) : Type 0 where
  pub x : nat_abs r.x < 32768
  pub y : nat_abs r.y < 32768
  pub z : nat_abs r.z < 32768
  pub w : nat_abs r.w < 128

pub record FaceFits (f : Face) : Type 0 where
  pub p : f.p < 256
  pub q : f.q < 256
  pub r : f.r < 256

pub record HeaderFits (c : Scene) : Type 0 where
  pub vertices_a_law : c.vertices_a < 256
  pub faces_a_law : c.faces_a < 256
  pub vertices_b_law : c.vertices_b < 256
  pub faces_b_law : c.faces_b < 256

-- ---- l with such bytes in it: the row of the file's point j (0 the far point, then the vertices), the corners of the face whose record
-- starts at k, a mark at k, the header

unfoldable pub row_put : List ℕ → ℕ → Row → List ℕ
row_put l j r = sets l (point_start j + 2) (row_bytes r)

unfoldable pub corners_put : List ℕ → ℕ → Face → List ℕ
corners_put l k f = sets l (k + 2) (corner_bytes f)

unfoldable pub two_put : List ℕ → ℕ → ℕ → List ℕ
two_put l k n = sets l k (two n)

unfoldable pub header_put : List ℕ → Scene → List ℕ
header_put l c = sets l 0 (header_bytes c)
