-- The solid that a text of the form denotes: its vertices' numbers are the items from the fifth on, three or four each, and then come its
-- faces, four items each, whose corners count from 0 in the text and from 1 in a scene. Assumes nothing.
use Rattle.std.specs.Prelude.{ℕ, zero, suc, ◌+◌, ◌*◌, List, false, cond, ℤ, pos, eqb}
use Rattle.laws.specs.Lists.{run}
use Rattle.scene.specs.Tables.{Table, Tables}
use Rattle.scene.specs.declared.Row.{Row}
use Rattle.scene.specs.declared.Face.{Face}
use Rattle.off_items.specs.Items.{end_of, after}
use Rattle.off_items.specs.Numbers.{made, number_from, size_from}
use Rattle.off_items.specs.declared.numbers.Number.{Number}
use Rattle.off_form.specs.Form.{numbers_of, vertices_of, faces_of}
use Rattle.off_solids.specs.declared.points.Point.{Point}

-- the end of the first k items from `at` on
abbrev pub past : List ℕ → ℕ → ℕ → ℕ
past s at zero = at
past s at (suc k) = end_of s (past s at k)

-- ---- a vertex with `per` numbers, the weight last, or 1

unfoldable pub weight_from : ℕ → List ℕ → ℕ → ℤ
weight_from per s at = cond (eqb per 4) (number_from s at) (pos 1)

unfoldable pub row_from : ℕ → List ℕ → ℕ → Row
row_from per s at =
    record {
      x = number_from s at;
      y = number_from s (past s at 1);
      z = number_from s (past s at 2);
      w = weight_from per s (past s at 3);
    }

unfoldable pub row_of : List ℕ → ℕ → Row
row_of s i = row_from (numbers_of s) s (after s (4 + i * numbers_of s))

-- ---- a face: its size, and three corners

abbrev pub corner_from : List ℕ → ℕ → ℕ
corner_from s at = size_from false s at + 1

unfoldable pub corners_from : List ℕ → ℕ → Face
corners_from s at = record { p = corner_from s (past s at 1); q = corner_from s (past s at 2); r = corner_from s (past s at 3) }

unfoldable pub face_of : List ℕ → ℕ → Face
face_of s i = corners_from s (after s (4 + vertices_of s * numbers_of s + i * 4))

-- ---- the solids of two texts, and the far point given beside them

abbrev pub solid_of : List ℕ → Table
solid_of s = record { rows = run (row_of s) 0 (vertices_of s); faces = run (face_of s) 0 (faces_of s) }

abbrev pub told_of : Number → ℤ
told_of n = made n.minus n.size

abbrev pub point_of : Point → Row
point_of p = record { x = told_of p.x; y = told_of p.y; z = told_of p.z; w = told_of p.w }

abbrev pub denoted : List ℕ → List ℕ → Point → Tables
denoted a b far = record { a = solid_of a; b = solid_of b; far = point_of far }
