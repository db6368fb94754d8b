-- A number that its field in a scene cannot hold is written as the nearest that it can, which is outside the limits too; every other number
-- is written as it is. Assumes nothing.
use Rattle.std.specs.Prelude.{ℕ, suc, List, map, true, ℤ, pos, negsuc}
use Rattle.scene.specs.Tables.{Table, Tables}
use Rattle.scene.specs.declared.Row.{Row}
use Rattle.scene.specs.declared.Face.{Face}
use Rattle.off_items.specs.Numbers.{made, at_most}
use Rattle.rules.specs.Write.{bytes_of}
use Rattle.off_solids.specs.Solid.{denoted}
use Rattle.off_solids.specs.declared.points.Point.{Point}

-- of the numbers of at most this size, the nearest
abbrev pub nearest : ℕ → ℤ → ℤ
nearest most (pos n) = pos (at_most most n)
nearest most (negsuc n) = made true (at_most most (suc n))

abbrev pub fitted_row : Row → Row
fitted_row r = record { x = nearest 32767 r.x; y = nearest 32767 r.y; z = nearest 32767 r.z; w = nearest 127 r.w }

abbrev pub fitted_face : Face → Face
fitted_face f = record { p = at_most 255 f.p; q = at_most 255 f.q; r = at_most 255 f.r }

abbrev pub fitted_table : Table → Table
fitted_table k = record { rows = map fitted_row k.rows; faces = map fitted_face k.faces }

abbrev pub fitted : Tables → Tables
fitted t = record { a = fitted_table t.a; b = fitted_table t.b; far = fitted_row t.far }

-- the scene of two texts and a far point
unfoldable pub scene_of : List ℕ → List ℕ → Point → List ℕ
scene_of a b far = bytes_of (fitted (denoted a b far))
