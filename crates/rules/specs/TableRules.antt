-- The rules of a scene over its tables, whatever bytes they came from. Assumes nothing.
use Rattle.std.specs.Prelude.{◌≡◌, List, ℕ, ◌≤◌, ◌<◌, length}
use Rattle.laws.specs.Lists.{Each, Some}
use Rattle.scene.specs.Limits.{Limits}
use Rattle.scene.specs.Bytes.{two_at}
use Rattle.scene.specs.Records.{verts, faces, point_start, face_start, end_start, marksc, markfp, markvx, markfc, marken}
use Rattle.scene.specs.Tables.{Table, Tables, size}
use Rattle.scene.specs.Faces.{Corner, Vertex, FaceOf, EdgesOk}
use Rattle.scene.specs.declared.Row.{Row}
use Rattle.rules.specs.Rules.{Between, LengthOk, CoordinatesIn, WeightIn, Zeros}

pub record RowOk (least : ℕ) (l : Limits) (r : Row) : Type 0 where
  pub coordinates : CoordinatesIn l r
  pub weight : WeightIn least l r

pub record TableOk (l : Limits) (k : Table) : Type 0 where
  pub vertices : Between l.least_vertices l.most_vertices (size k)
  pub number : Between l.least_faces l.most_faces (length k.faces)
  pub rows : Each (RowOk 1 l) k.rows
  pub corners : Each (FaceOf 0 (size k)) k.faces
  pub used : (i : ℕ) → Vertex 0 (size k) i → Some (Corner i) k.faces
  pub edges : EdgesOk k.faces

pub record TablesOk (l : Limits) (t : Tables) : Type 0 where
  pub a : TableOk l t.a
  pub b : TableOk l t.b
  pub far : RowOk 0 l t.far
  pub somewhere : ¬ Zeros t.far

-- what a file has beside its tables: its length and its marks
pub record Marked (s : List ℕ) : Type 0 where
  pub long : LengthOk s
  pub opening : two_at s 0 ≡ marksc
  pub far : two_at s (point_start 0) ≡ markfp
  pub vertex : (j : ℕ) → 1 ≤ j → j ≤ verts s → two_at s (point_start j) ≡ markvx
  pub face : (i : ℕ) → i < faces s → two_at s (face_start s i) ≡ markfc
  pub end : two_at s (end_start s) ≡ marken

-- limits that the file's bytes have room for: counts and corners of one byte, coordinates of two and weights of one, both signed
pub record Fit (l : Limits) : Type 0 where
  pub vertices : l.most_vertices < 256
  pub faces : l.most_faces < 256
  pub coordinate : l.most_coordinate < 32768
  pub weight : l.most_weight < 128
