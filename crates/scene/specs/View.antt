-- A scene as a question reads it: how many vertices and faces each solid has, and the rows and the faces by the scene's own numbers.
-- Whatever makes a view, bytes, a session or a map, every question and every theorem reads it alike. Laws about it: `View.Laws`. Assumes
-- nothing.
pub mod Laws
use Rattle.std.specs.Prelude.{cond, List, ℕ, ◌+◌, eqb}
use Rattle.scene.specs.Records as file
use Rattle.scene.specs.Tables as tables
use Rattle.scene.specs.Tables.{tables_of}
use Rattle.scene.specs.declared.Row.{Row}
use Rattle.scene.specs.declared.Face.{Face}
use Rattle.scene.specs.declared.Solid.{Solid}

pub record View : Type 0 where
  pub verts_a : ℕ
  pub faces_in_a : ℕ
  pub verts_b : ℕ
  pub faces_in_b : ℕ
  pub row : ℕ → Row
  pub face : ℕ → Face

-- A's vertices, then B's; the far point is the last of the points
abbrev pub verts : View → ℕ
verts v = v.verts_a + v.verts_b

abbrev pub points : View → ℕ
points v = verts v + 1

abbrev pub faces : View → ℕ
faces v = v.faces_in_a + v.faces_in_b

-- what the bytes of a scene denote
abbrev pub view_of : List ℕ → View
view_of s =
    record {
      verts_a = file.verts_a s;
      faces_in_a = file.faces_in_a s;
      verts_b = file.verts_b s;
      faces_in_b = file.faces_in_b s;
      row = tables.row (tables_of s);
      face = tables.face (tables_of s);
    }

-- ---- its two solids: 1 is A, whose vertices are the points from 1 on and whose faces come first; else it is B, which comes behind

abbrev pub solid_a : View → Solid
solid_a v = record { vert0 = 0; verts = v.verts_a; face0 = 0; faces = v.faces_in_a; other0 = v.faces_in_a; others = v.faces_in_b }

abbrev pub solid_b : View → Solid
solid_b v = record { vert0 = v.verts_a; verts = v.verts_b; face0 = v.faces_in_a; faces = v.faces_in_b; other0 = 0; others = v.faces_in_a }

unfoldable pub solid : View → ℕ → Solid
solid v k = cond (eqb k 1) (solid_a v) (solid_b v)
