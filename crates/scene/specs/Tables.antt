-- What the bytes of a scene denote: the rows and the faces of A and of B, and the far point's row; and the scene's own numbers for them.
-- Assumes nothing.
use Rattle.std.specs.Prelude.{List, [], ◌∷◌, ◌++◌, map, ℕ, ◌+◌, pos, length, get_or}
use Rattle.laws.specs.Lists.{run}
use Rattle.scene.specs.Bytes.{byte_at, coordinate_at, weight_at}
use Rattle.scene.specs.Records.{verts_a, faces_in_a, verts_b, faces_in_b, point_start, face_start}
use Rattle.scene.specs.declared.Row.{Row}
use Rattle.scene.specs.declared.Face.{Face}

-- a solid: the rows of its vertices, and its faces, whose corners are vertex numbers within the solid, from 1
pub record Table : Type 0 where
  pub rows : List Row
  pub faces : List Face

pub record Tables : Type 0 where
  pub a : Table
  pub b : Table
  pub far : Row

abbrev pub size : Table → ℕ
size k = length k.rows

-- ---- the scene's numbers: A's vertices, then B's, then the far point; A's faces, then B's; each from 1

abbrev pub points : Tables → ℕ
points t = size t.a + size t.b + 1

-- four zeros, three zeros: of a number that the scene lacks
abbrev pub no_row : Row
no_row = record { x = pos 0; y = pos 0; z = pos 0; w = pos 0 }

abbrev pub no_face : Face
no_face = record { p = 0; q = 0; r = 0 }

unfoldable pub row : Tables → ℕ → Row
row t i = get_or (no_row ∷ t.a.rows ++ (t.b.rows ++ t.far ∷ [])) i no_row

-- the face in the scene's numbers, where its solid's vertices come after m points
abbrev pub raise : ℕ → Face → Face
raise m f = record { p = m + f.p; q = m + f.q; r = m + f.r }

unfoldable pub face : Tables → ℕ → Face
face t k = get_or (no_face ∷ t.a.faces ++ map (raise (size t.a)) t.b.faces) k no_face

-- ---- from bytes

-- the file's point j (0 the far point, then the vertices), and its face i (from 0), whose corners are numbers within the solid
abbrev pub row_at : List ℕ → ℕ → Row
row_at s j =
    record {
      x = coordinate_at s (point_start j + 2);
      y = coordinate_at s (point_start j + 4);
      z = coordinate_at s (point_start j + 6);
      w = weight_at s (point_start j + 8);
    }

-- corner m (0, 1, 2) of the file's face i
unfoldable pub corner_at : List ℕ → ℕ → ℕ → ℕ
corner_at s i m = byte_at s (face_start s i + 2 + m)

abbrev pub face_at : List ℕ → ℕ → Face
face_at s i = record { p = corner_at s i 0; q = corner_at s i 1; r = corner_at s i 2 }

abbrev pub tables_of : List ℕ → Tables
tables_of s =
    record {
      a = record { rows = run (row_at s) 1 (verts_a s); faces = run (face_at s) 0 (faces_in_a s) };
      b = record { rows = run (row_at s) (verts_a s + 1) (verts_b s); faces = run (face_at s) (faces_in_a s) (faces_in_b s) };
      far = row_at s 0;
    }
