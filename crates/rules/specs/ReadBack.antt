-- Tables that keep the rules are read back from the bytes that they are written as. Assumes nothing.
use Rattle.std.specs.Prelude.{◌≡◌, ℕ, ◌+◌, ◌/◌, ◌%◌, ◌<◌, ℤ, nat_abs, length, get_or}
use Rattle.std.proofs.Math.Path.{refl, ap}
use Rattle.std.proofs.Common.{◌∙◌, arith}
use mathlib.Core.List.{List, ◌++◌, flat_map}
use Rattle.laws.specs.Lists.{Each, run}
use Rattle.scene.specs.Limits.{Limits}
use Rattle.scene.specs.Bytes.{two_at, coordinate_at, weight_at, signed}
use Rattle.scene.specs.Records.{point_start, face_start, end_start, markfp, markvx, marken}
use Rattle.scene.specs.Tables.{Tables, size, row_at, face_at, corner_at, tables_of}
use Rattle.scene.specs.Faces.{FaceOf}
use Rattle.scene.specs.declared.Row.{Row}
use Rattle.scene.specs.declared.Face.{Face}
use Rattle.rules.specs.TableRules.{RowOk, TablesOk, Fit}
use Rattle.scene.specs.Write.{two, unsigned}
use Rattle.scene.specs.Written.{signed_unsigned}
use Rattle.rules.specs.Write.{point_bytes, face_bytes, header, bytes_of}
use Rattle.rules.specs.Held.{Held, left, right, byte_of, itself, length_all, all_read}

read_two : {s l : List ℕ} {k : ℕ} (n i : ℕ) → Held s k l → i + 1 < length l → get_or l i 0 ≡ n % 256 → get_or l (i + 1) 0 ≡ n / 256 →
    two_at s (k + i) ≡ n
unfolding two_at
read_two {s} {l} {k} n i h b low high =
    let x = byte_of h (k + i) i refl (omega arith) in
    let y = byte_of h (k + i + 1) (i + 1) (omega arith) b in
    omega arith

pub read_mark : {s l : List ℕ} {k : ℕ} (n : ℕ) → Held s k l → 1 < length l → get_or l 0 0 ≡ n % 256 → get_or l 1 0 ≡ n / 256 → two_at s k ≡ n
read_mark {s} n h b low high = ap (two_at s) (omega arith) ∙ read_two n 0 h b low high

module _ (s : List ℕ) where
  read_coordinate : (k i : ℕ) {l : List ℕ} (z : ℤ) → Held s k l → i + 1 < length l → nat_abs z < 32768 →
      get_or l i 0 ≡ unsigned 32768 z % 256 → get_or l (i + 1) 0 ≡ unsigned 32768 z / 256 → coordinate_at s (k + i) ≡ z
  unfolding coordinate_at
  read_coordinate k i z h b small low high = ap (signed 32768) (read_two (unsigned 32768 z) i h b low high) ∙ signed_unsigned 32768 z small

  read_point : {l : Limits} (least : ℕ) → Fit l → (m j : ℕ) (r : Row) → RowOk least l r →
      Held s (point_start j) (point_bytes m r) → row_at s j ≡ r
  unfolding weight_at
  read_point least fit m j r ok h =
      let k = point_start j in
      let c = ok.coordinates in
      let x : coordinate_at s (k + 2) ≡ r.x = read_coordinate k 2 r.x h (omega arith) (omega (arith, fit.coordinate, c.x)) refl refl in
      let y : coordinate_at s (k + 4) ≡ r.y = read_coordinate k 4 r.y h (omega arith) (omega (arith, fit.coordinate, c.y)) refl refl in
      let z : coordinate_at s (k + 6) ≡ r.z = read_coordinate k 6 r.z h (omega arith) (omega (arith, fit.coordinate, c.z)) refl refl in
      let w : weight_at s (k + 8) ≡ r.w =
      ap (signed 128) (byte_of h (k + 8) 8 refl (omega arith)) ∙ signed_unsigned 128 r.w (omega (arith, fit.weight, ok.weight.1)) in
      λ i. record { x = x i; y = y i; z = z i; w = w i }

  read_face : (i : ℕ) (f : Face) → Held s (face_start s i) (face_bytes f) → face_at s i ≡ f
  unfolding corner_at
  read_face i f h =
      let k = face_start s i in
      let p = byte_of h (k + 2 + 0) 2 (omega arith) (omega arith) in
      let q = byte_of h (k + 2 + 1) 3 (omega arith) (omega arith) in
      let r = byte_of h (k + 2 + 2) 4 (omega arith) (omega arith) in
      λ i. record { p = p i; q = q i; r = r i }

module _ (t : Tables) where
  abbrev s : List ℕ
  s = bytes_of t

  abbrev rest : List ℕ
  rest = flat_map face_bytes t.a.faces ++ (flat_map face_bytes t.b.faces ++ two marken)

  abbrev vertices : List ℕ
  vertices = flat_map (point_bytes markvx) t.a.rows ++ (flat_map (point_bytes markvx) t.b.rows ++ rest)

  -- where each part stands
  points_stand : Held s (point_start 0) (point_bytes markfp t.far ++ vertices)
  points_stand = right (header t) (point_bytes markfp t.far ++ vertices) (omega arith) (itself s)

  pub far_stands : Held s (point_start 0) (point_bytes markfp t.far)
  far_stands = left (point_bytes markfp t.far) vertices points_stand

  vertices_stand : Held s (point_start 1) vertices
  vertices_stand = right (point_bytes markfp t.far) vertices (omega arith) points_stand

  b_stands : Held s (point_start (size t.a + 1)) (flat_map (point_bytes markvx) t.b.rows ++ rest)
  b_stands =
      right (flat_map (point_bytes markvx) t.a.rows) (flat_map (point_bytes markvx) t.b.rows ++ rest)
      (omega (arith, length_all (point_bytes markvx) 9 (λ r. refl) t.a.rows)) vertices_stand

  faces_stand : Held s (face_start s 0) rest
  faces_stand =
      right (flat_map (point_bytes markvx) t.b.rows) rest
      (omega (arith, length_all (point_bytes markvx) 9 (λ r. refl) t.b.rows)) b_stands

  faces_b_stand : Held s (face_start s (length t.a.faces)) (flat_map face_bytes t.b.faces ++ two marken)
  faces_b_stand =
      right (flat_map face_bytes t.a.faces) (flat_map face_bytes t.b.faces ++ two marken)
      (omega (arith, length_all face_bytes 5 (λ f. refl) t.a.faces)) faces_stand

  pub end_stands : Held s (end_start s) (two marken)
  end_stands =
      right (flat_map face_bytes t.b.faces) (two marken) (omega (arith, length_all face_bytes 5 (λ f. refl) t.b.faces)) faces_b_stand

  pub a_rows : Held s (point_start 1) (flat_map (point_bytes markvx) t.a.rows)
  a_rows = left (flat_map (point_bytes markvx) t.a.rows) (flat_map (point_bytes markvx) t.b.rows ++ rest) vertices_stand

  pub b_rows : Held s (point_start (size t.a + 1)) (flat_map (point_bytes markvx) t.b.rows)
  b_rows = left (flat_map (point_bytes markvx) t.b.rows) rest b_stands

  pub a_faces : Held s (face_start s 0) (flat_map face_bytes t.a.faces)
  a_faces = left (flat_map face_bytes t.a.faces) (flat_map face_bytes t.b.faces ++ two marken) faces_stand

  pub b_faces : Held s (face_start s (length t.a.faces)) (flat_map face_bytes t.b.faces)
  b_faces = left (flat_map face_bytes t.b.faces) (two marken) faces_b_stand

  read_faces : (P : Face → Type 0) (k : ℕ) (fs : List Face) → Each P fs → Held s (face_start s k) (flat_map face_bytes fs) →
      run (face_at s) k (length fs) ≡ fs
  read_faces P k fs ok h =
      all_read face_bytes 5 (λ f. refl) s (face_start s) (λ i. omega arith) P (face_at s) (λ i f u. read_face s i f) fs k ok h

  module _ {l : Limits} (fit : Fit l) where
    read_rows : (k : ℕ) (rs : List Row) → Each (RowOk 1 l) rs → Held s (point_start k) (flat_map (point_bytes markvx) rs) →
        run (row_at s) k (length rs) ≡ rs
    read_rows k rs ok h =
        all_read (point_bytes markvx) 9 (λ r. refl) s point_start (λ i. omega arith) (RowOk 1 l) (row_at s)
        (read_point s 1 fit markvx) rs k ok h

    pub read_back : TablesOk l t → tables_of (bytes_of t) ≡ t
    read_back ok =
        let ra = read_rows 1 t.a.rows ok.a.rows a_rows in
        let rb = read_rows (size t.a + 1) t.b.rows ok.b.rows b_rows in
        let fa = read_faces (FaceOf 0 (size t.a)) 0 t.a.faces ok.a.corners a_faces in
        let fb = read_faces (FaceOf 0 (size t.b)) (length t.a.faces) t.b.faces ok.b.corners b_faces in
        let far = read_point s 0 fit markfp 0 t.far ok.far far_stands in
        λ i. record { a = record { rows = ra i; faces = fa i }; b = record { rows = rb i; faces = fb i }; far = far i }
