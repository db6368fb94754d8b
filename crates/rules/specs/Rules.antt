-- The written rules of a scene file, over its numbers: of the header, of each record, of each vertex and of each face. Assumes nothing.
use Rattle.std.specs.Prelude.{◌≡◌, List, ℕ, ◌+◌, ◌≤◌, ◌<◌, pos, nat_abs, length}
use Rattle.laws.specs.Lists.{Some}
use Rattle.scene.specs.Limits.{Limits, least_weight}
use Rattle.scene.specs.Bytes.{two_at}
use Rattle.scene.specs.Records.{verts_a, verts_b, faces_in_a, faces_in_b, verts, faces, face_record, last_record, length_of}
use Rattle.scene.specs.Records.{point_start, face_start, end_start, marksc, markfp, markvx, markfc, marken}
use Rattle.scene.specs.Tables.{row_at, face_at, tables_of}
use Rattle.scene.specs.Faces.{Corner, FaceOf, Sides, EdgeOk}
use Rattle.scene.specs.declared.Row.{Row}

abbrev pub Between : (low high n : ℕ) → Type 0
Between low high n = (low ≤ n) × (n ≤ high)

-- ---- the header (refusals 1, 2 and 3)

abbrev pub Opens : List ℕ → Type 0
Opens s = (6 ≤ length s) × (two_at s 0 ≡ marksc)

pub record CountsOk (l : Limits) (s : List ℕ) : Type 0 where
  pub vertices_a_law : Between l.least_vertices l.most_vertices (verts_a s)
  pub faces_a_law : Between l.least_faces l.most_faces (faces_in_a s)
  pub vertices_b_law : Between l.least_vertices l.most_vertices (verts_b s)
  pub faces_b_law : Between l.least_faces l.most_faces (faces_in_b s)

abbrev pub LengthOk : List ℕ → Type 0
LengthOk s = length s ≡ length_of s

pub record HeaderOk (l : Limits) (s : List ℕ) : Type 0 where
  pub opens : Opens s
  pub counts : CountsOk l s
  pub long : LengthOk s

-- ---- record k, from 1 to the last (refusals 4 to 7 and 14)

-- its mark, where it is the far point's, that of vertex j, that of the file's face i, or the last
pub record MarkOk (s : List ℕ) (k : ℕ) : Type 0 where
  pub far : k ≡ 1 → two_at s (point_start 0) ≡ markfp
  pub vertex : (j : ℕ) → 1 ≤ j → j ≤ verts s → k ≡ j + 1 → two_at s (point_start j) ≡ markvx
  pub face : (i : ℕ) → i < faces s → k ≡ face_record s i → two_at s (face_start s i) ≡ markfc
  pub end : k ≡ last_record s → two_at s (end_start s) ≡ marken

pub record CoordinatesIn (l : Limits) (r : Row) : Type 0 where
  pub x : nat_abs r.x ≤ l.most_coordinate
  pub y : nat_abs r.y ≤ l.most_coordinate
  pub z : nat_abs r.z ≤ l.most_coordinate

abbrev pub WeightIn : (least : ℕ) → Limits → Row → Type 0
WeightIn least l r = Between least l.most_weight (nat_abs r.w)

-- the four numbers are all 0
pub record Zeros (r : Row) : Type 0 where
  pub x : r.x ≡ pos 0
  pub y : r.y ≡ pos 0
  pub z : r.z ≡ pos 0
  pub w : r.w ≡ pos 0

-- where it is the record of the file's point j (0 the far point, then the vertices)
abbrev pub CoordinatesOk : Limits → List ℕ → ℕ → Type 0
CoordinatesOk l s k = (j : ℕ) → j ≤ verts s → k ≡ j + 1 → CoordinatesIn l (row_at s j)

abbrev pub WeightOk : Limits → List ℕ → ℕ → Type 0
WeightOk l s k = (j : ℕ) → j ≤ verts s → k ≡ j + 1 → WeightIn (least_weight j) l (row_at s j)

-- where it is the far point's
abbrev pub SomewhereOk : List ℕ → ℕ → Type 0
SomewhereOk s k = k ≡ 1 → ¬ Zeros (row_at s 0)

-- where it is that of the file's face i: three different vertices of the face's solid
pub record CornersOk (s : List ℕ) (k : ℕ) : Type 0 where
  pub of_a : (i : ℕ) → i < faces_in_a s → k ≡ face_record s i → FaceOf 0 (verts_a s) (face_at s i)
  pub of_b : (i : ℕ) → faces_in_a s ≤ i → i < faces s → k ≡ face_record s i → FaceOf 0 (verts_b s) (face_at s i)

pub record RecordOk (l : Limits) (s : List ℕ) (k : ℕ) : Type 0 where
  pub mark : MarkOk s k
  pub coordinates : CoordinatesOk l s k
  pub weight : WeightOk l s k
  pub somewhere : SomewhereOk s k
  pub corners : CornersOk s k

abbrev pub RecordsOk : Limits → List ℕ → Type 0
RecordsOk l s = (k : ℕ) → 1 ≤ k → k ≤ last_record s → RecordOk l s k

-- ---- the vertex with point number p is a corner of one of its solid's faces (refusal 8)

pub record Used (s : List ℕ) (p : ℕ) : Type 0 where
  pub of_a : p ≤ verts_a s → Some (Corner p) (tables_of s).a.faces
  pub of_b : (v : ℕ) → 1 ≤ v → p ≡ verts_a s + v → Some (Corner v) (tables_of s).b.faces

abbrev pub AllUsed : List ℕ → Type 0
AllUsed s = (p : ℕ) → 1 ≤ p → p ≤ verts s → Used s p

-- ---- each side of the file's face i is an edge in an even number of faces of its solid (refusal 9)

pub record SidesOk (s : List ℕ) (i : ℕ) : Type 0 where
  pub of_a : i < faces_in_a s → Sides (EdgeOk (tables_of s).a.faces) (face_at s i)
  pub of_b : faces_in_a s ≤ i → Sides (EdgeOk (tables_of s).b.faces) (face_at s i)

-- ---- all of them

pub record FileOk (l : Limits) (s : List ℕ) : Type 0 where
  pub header : HeaderOk l s
  pub records : RecordsOk l s
  pub used : AllUsed s
  pub sides : (i : ℕ) → i < faces s → SidesOk s i
