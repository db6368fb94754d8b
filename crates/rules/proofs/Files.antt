-- The accepted scenes are exactly the files of tables that keep the rules. Assumes nothing.
use Rattle.std.specs.Prelude.{◌≡◌, ◌↔◌, ℕ, ◌+◌, ◌≤◌, ◌<◌, ℤ, pos, negsuc, nat_abs, length, Ok}
use Rattle.std.proofs.Math.Path.{refl}
use Rattle.std.proofs.Common.{sym, subst, arith}
use mathlib.Core.List.{List, [], ◌∷◌, ◌++◌, flat_map}
use Rattle.std.proofs.Math.Decide.{dec_lt}
use Rattle.laws.specs.Lists.{Each, each_append, each_at}
use Rattle.scene.specs.Limits.{Limits}
use Rattle.scene.specs.Bytes.{two_at}
use Rattle.scene.specs.Records.{verts, faces, point_start, face_start, markfp, markvx, markfc, marken}
use Rattle.scene.specs.Tables.{Table, Tables, size, tables_of}
use Rattle.scene.specs.Faces.{FaceOf}
use Rattle.scene.specs.declared.Row.{Row}
use Rattle.scene.specs.declared.Face.{Face}
use Rattle.judge.specs.Judge.{judged_at}
use Rattle.rules.specs.TableRules.{RowOk, TableOk, TablesOk, Marked, Fit}
use Rattle.rules.proofs.Accepted.{accepted}
use Rattle.rules.proofs.Bridge.{by_tables}
use Rattle.scene.specs.Write.{two, unsigned}
use Rattle.rules.specs.Write.{point_bytes, face_bytes, header, bytes_of}
use Rattle.rules.specs.Held.{Held, all_give}
use Rattle.rules.proofs.Written.{file_length, accepted_written}
use Rattle.rules.specs.ReadBack.{read_mark, far_stands, end_stands, a_rows, b_rows, a_faces, b_faces, read_back}
use Rattle.rules.specs.Write.{Bytes}
use Rattle.rules.specs.FileOf.{FileOf}

module _ (t : Tables) where
  abbrev s : List ℕ
  s = bytes_of t

  vertex_marks : (k : ℕ) (rs : List Row) → Held s (point_start k) (flat_map (point_bytes markvx) rs) →
      (j : ℕ) → k ≤ j → j < k + length rs → two_at s (point_start j) ≡ markvx
  vertex_marks k rs h =
      all_give (point_bytes markvx) 9 (λ r. refl) s point_start (λ i. omega arith) (λ j. two_at s (point_start j) ≡ markvx)
      (λ j r l. read_mark markvx l (omega arith) refl refl) rs k h

  face_marks : (k : ℕ) (fs : List Face) → Held s (face_start s k) (flat_map face_bytes fs) →
      (i : ℕ) → k ≤ i → i < k + length fs → two_at s (face_start s i) ≡ markfc
  face_marks k fs h =
      all_give face_bytes 5 (λ f. refl) s (face_start s) (λ i. omega arith) (λ i. two_at s (face_start s i) ≡ markfc)
      (λ i f l. read_mark markfc l (omega arith) refl refl) fs k h

  vertex_mark : (j : ℕ) → 1 ≤ j → j ≤ verts s → two_at s (point_start j) ≡ markvx
  vertex_mark j a b = go (dec_lt j (size t.a + 1))
    where
      go : Dec (j < size t.a + 1) → two_at s (point_start j) ≡ markvx
      go (yes l) = vertex_marks 1 t.a.rows (a_rows t) j a (omega arith)
      go (no n) = vertex_marks (size t.a + 1) t.b.rows (b_rows t) j (omega arith) (omega arith)

  face_mark : (i : ℕ) → i < faces s → two_at s (face_start s i) ≡ markfc
  face_mark i b = go (dec_lt i (length t.a.faces))
    where
      go : Dec (i < length t.a.faces) → two_at s (face_start s i) ≡ markfc
      go (yes l) = face_marks 0 t.a.faces (a_faces t) i (omega arith) (omega arith)
      go (no n) = face_marks (length t.a.faces) t.b.faces (b_faces t) i (omega arith) (omega arith)

  marked : Marked (bytes_of t)
  unfolding two_at
  marked =
      record {
        long = file_length t;
        opening = refl;
        far = read_mark markfp (far_stands t) (omega arith) refl refl;
        vertex = vertex_mark;
        face = face_mark;
        end = read_mark marken (end_stands t) (omega arith) refl refl;
      }

-- ---- each of its elements is a byte

abbrev Byte : ℕ → Type 0
Byte b = b < 256

unsigned_small : (h : ℕ) (z : ℤ) → nat_abs z < h → unsigned h z < h + h
unsigned_small h (pos n) l = omega arith
unsigned_small h (negsuc n) l = omega arith

point_bytes_law : {l : Limits} (least : ℕ) → Fit l → (m : ℕ) → m < 65536 → (r : Row) → RowOk least l r → Each Byte (point_bytes m r)
point_bytes_law least fit m h r ok =
    let c = ok.coordinates in
    let x = unsigned_small 32768 r.x (omega (arith, fit.coordinate, c.x)) in
    let y = unsigned_small 32768 r.y (omega (arith, fit.coordinate, c.y)) in
    let z = unsigned_small 32768 r.z (omega (arith, fit.coordinate, c.z)) in
    let w = unsigned_small 128 r.w (omega (arith, fit.weight, ok.weight.1)) in
    omega arith

face_bytes_law : (v : ℕ) → v < 256 → (f : Face) → FaceOf 0 v f → Each Byte (face_bytes f)
face_bytes_law v l f ok = omega arith

all_bytes : {A : Type 0} (P : A → Type 0) (f : A → List ℕ) → ((x : A) → P x → Each Byte (f x)) → (xs : List A) → Each P xs →
    Each Byte (flat_map f xs)
unfolding flat_map
all_bytes P f g [] h = tt
all_bytes P f g (x ∷ xs) h = each_append Byte (f x) (flat_map f xs) (g x h.0) (all_bytes P f g xs h.1)

module _ {l : Limits} (fit : Fit l) where
  rows_bytes : (k : Table) → TableOk l k → Each Byte (flat_map (point_bytes markvx) k.rows)
  rows_bytes k h = all_bytes (RowOk 1 l) (point_bytes markvx) (point_bytes_law 1 fit markvx (omega arith)) k.rows h.rows

  faces_bytes_law : (k : Table) → TableOk l k → Each Byte (flat_map face_bytes k.faces)
  faces_bytes_law k h =
      all_bytes (FaceOf 0 (size k)) face_bytes (face_bytes_law (size k) (omega (arith, fit.vertices, h.vertices.1))) k.faces h.corners

  module _ (t : Tables) (ok : TablesOk l t) where
    header_bytes_law : Each Byte (header t)
    header_bytes_law = omega (arith, fit.vertices, fit.faces, ok.a.vertices.1, ok.a.number.1, ok.b.vertices.1, ok.b.number.1)

    pub file_bytes : Bytes (bytes_of t)
    file_bytes =
        let f1 = two marken in
        let f2 = flat_map face_bytes t.b.faces ++ f1 in
        let f3 = flat_map face_bytes t.a.faces ++ f2 in
        let f4 = flat_map (point_bytes markvx) t.b.rows ++ f3 in
        let f5 = flat_map (point_bytes markvx) t.a.rows ++ f4 in
        let f6 = point_bytes markfp t.far ++ f5 in
        let e2 = each_append Byte (flat_map face_bytes t.b.faces) f1 (faces_bytes_law t.b ok.b) (omega arith) in
        let e3 = each_append Byte (flat_map face_bytes t.a.faces) f2 (faces_bytes_law t.a ok.a) e2 in
        let e4 = each_append Byte (flat_map (point_bytes markvx) t.b.rows) f3 (rows_bytes t.b ok.b) e3 in
        let e5 = each_append Byte (flat_map (point_bytes markvx) t.a.rows) f4 (rows_bytes t.a ok.a) e4 in
        let e6 = each_append Byte (point_bytes markfp t.far) f5 (point_bytes_law 0 fit markfp (omega arith) t.far ok.far) e5 in
        each_at Byte (bytes_of t) 0 (each_append Byte (header t) f6 header_bytes_law e6) (omega arith)

    -- the file of tables that keep the rules is accepted
    pub file_accepted : judged_at l (bytes_of t) ≡ Ok tt
    file_accepted = (accepted l (bytes_of t)).1 ((by_tables l (bytes_of t)).1 (marked t, subst (TablesOk l) (sym (read_back t fit ok)) ok))

pub accepted_files : (l : Limits) → Fit l → (s : List ℕ) → Bytes s → (judged_at l s ≡ Ok tt) ↔ FileOf l s
accepted_files l fit s bytes = (
  λ p. record { tables = tables_of s; ok = ((by_tables l s).0 ((accepted l s).0 p)).1; written = accepted_written l s bytes p },
  λ f. subst (λ (s : List ℕ). judged_at l s ≡ Ok tt) f.written (file_accepted fit f.tables f.ok),
)
