-- A scene decoded once: the rows of its points in one array, four numbers each, and the corners of its faces in another, three numbers
-- each, at the scene's own numbers. Where the scene has no such number the array holds zeros, as `row` and `face` say, so that array and
-- tables are the same function of the number. Assumes nothing.
use Rattle.std.specs.Prelude.{List, ℕ, ◌+◌, ◌*◌, ◌≤◌, ℤ, pos, nat_abs, get_or, replicate}
use Rattle.scene.specs.Limits.{Limits, limits, most_points}
use Rattle.scene.specs.declared.Row.{Row}
use Rattle.scene.specs.declared.Face.{Face}

abbrev pub row_in : List ℤ → ℕ → Row
row_in l i =
    record { x = get_or l (4 * i) (pos 0); y = get_or l (4 * i + 1) (pos 0); z = get_or l (4 * i + 2) (pos 0); w = get_or l (4 * i + 3) (pos 0) }

abbrev pub face_in : List ℕ → ℕ → Face
face_in l k = record { p = get_or l (3 * k) 0; q = get_or l (3 * k + 1) 0; r = get_or l (3 * k + 2) 0 }

-- the empty arrays
abbrev pub no_rows : List ℤ
no_rows = replicate (4 * (most_points limits + 1)) (pos 0)

abbrev pub no_corners : List ℕ
no_corners = replicate (3 * (2 * limits.most_faces + 1)) 0

-- the four numbers of a row are within the limits; so are those of each row
pub record RowWithin (l : Limits) (r : Row) : Type 0 where
  pub x : nat_abs r.x ≤ l.most_coordinate
  pub y : nat_abs r.y ≤ l.most_coordinate
  pub z : nat_abs r.z ≤ l.most_coordinate
  pub w : nat_abs r.w ≤ l.most_weight

abbrev pub AllWithin : Limits → (ℕ → Row) → Type 0
AllWithin l row = (i : ℕ) → RowWithin l (row i)

-- the three corners of a face are numbers that a point can have; so are those of each face
pub record FaceWithin (l : Limits) (f : Face) : Type 0 where
  pub p : f.p ≤ most_points l
  pub q : f.q ≤ most_points l
  pub r : f.r ≤ most_points l

abbrev pub FacesWithin : Limits → (ℕ → Face) → Type 0
FacesWithin l face = (k : ℕ) → FaceWithin l (face k)
