-- The bytes of a scene, written from its tables. Assumes nothing.
use mathlib.Core.List.{List, ◌++◌, flat_map}
use Rattle.std.specs.Prelude.{ℕ, ◌<◌, length}
use Rattle.scene.specs.Bytes.{byte_at}
use Rattle.scene.specs.Records.{markfp, markvx, markfc, marken}
use Rattle.scene.specs.Tables.{Tables, size}
use Rattle.scene.specs.Write.{two, row_bytes, corner_bytes, header_bytes}
use Rattle.scene.specs.declared.Row.{Row}
use Rattle.scene.specs.declared.Face.{Face}

abbrev pub point_bytes : ℕ → Row → List ℕ
point_bytes mark r = two mark ++ row_bytes r

abbrev pub face_bytes : Face → List ℕ
face_bytes f = two markfc ++ corner_bytes f

abbrev pub header : Tables → List ℕ
header t =
    header_bytes
    (record { vertices_a = size t.a; faces_a = length t.a.faces; vertices_b = size t.b; faces_b = length t.b.faces })

abbrev pub bytes_of : Tables → List ℕ
bytes_of t =
    header t ++ (point_bytes markfp t.far
    ++ (flat_map (point_bytes markvx) t.a.rows ++ (flat_map (point_bytes markvx) t.b.rows
    ++ (flat_map face_bytes t.a.faces ++ (flat_map face_bytes t.b.faces
    ++ two marken)))))

-- the elements are bytes
abbrev pub Bytes : List ℕ → Type 0
Bytes s = (i : ℕ) → byte_at s i < 256
