-- Of tables whose numbers are held in their fields the scene's bytes are read back, whether or not they keep the rules; and by a file's
-- numbers of points and faces. Assumes nothing.
use Prim.Native.Nat.{ℕ, zero, suc, ◌+◌, ◌/◌, ◌%◌, ◌≤◌, ◌<◌}
use Rattle.std.specs.Prelude.{◌≡◌, ℤ, pos, nat_abs, length}
use Rattle.std.proofs.Math.Path.{refl, ap}
use Rattle.std.proofs.Common.{sym, ap₂, ◌∙◌}
use mathlib.Core.List.{List, [], ◌∷◌, ◌++◌, map, flat_map}
use native.Mathlib.Omega.{arith}
use Rattle.std.proofs.Math.Decide.{dec_lt}
use Rattle.std.proofs.Math.ListN.{get_or}
use Rattle.laws.specs.Lists.{run, run_append, run_at}
use Rattle.scene.specs.Bytes.{two_at, coordinate_at, weight_at, signed}
use Rattle.scene.specs.Records.{verts_a, verts_b, verts, faces_in_a, faces_in_b, faces, point_start, face_start, markfp, markvx, markfc, marken}
use Rattle.scene.specs.Tables.{Tables, size, no_row, no_face, row_at, face_at, corner_at, tables_of}
use Rattle.scene.specs.Write.{unsigned}
use Rattle.scene.specs.Written.{signed_unsigned}
use Rattle.scene.specs.declared.Row.{Row}
use Rattle.scene.specs.declared.Face.{Face}
use Rattle.rules.specs.TableRules.{Marked}
use Rattle.rules.specs.Write.{point_bytes, face_bytes, bytes_of}
use Rattle.rules.proofs.Written.{file_length}
use Rattle.rules.specs.Held.{Held, left, right, byte_of, all_give}
use Rattle.rules.specs.ReadBack.{read_mark, far_stands, end_stands, a_rows, b_rows, a_faces, b_faces}
use Rattle.off_items.specs.Laws.{told_le, at_most_low}
use Rattle.off_solids.specs.Fitted.{nearest, fitted_row, fitted_face, fitted}
use Rattle.theorem_off.specs.Denoted.{point_in, face_in}
use Rattle.theorem_off.specs.Capped.{nearest_size}

-- ---- what a scene's fields can hold

near : (most : ℕ) (z : ℤ) → nat_abs (nearest most z) ≤ most
near most z = told_le most (nat_abs z) (nearest_size most z)

-- ---- one record

-- two bytes of a record
two_in : {s l : List ℕ} {k : ℕ} (n i : ℕ) → Held s k l → i + 1 < length l → get_or l i 0 ≡ n % 256 → get_or l (i + 1) 0 ≡ n / 256 →
    two_at s (k + i) ≡ n
unfolding two_at
two_in {s} {l} {k} n i h b low high =
    let x = byte_of h (k + i) i refl (omega arith) in
    let y = byte_of h (k + i + 1) (i + 1) (omega arith) b in
    omega arith

module _ (s : List ℕ) where
  number_in : (k i : ℕ) {l : List ℕ} (z : ℤ) → Held s k l → i + 1 < length l →
      get_or l i 0 ≡ unsigned 32768 (nearest 32767 z) % 256 → get_or l (i + 1) 0 ≡ unsigned 32768 (nearest 32767 z) / 256 →
      coordinate_at s (k + i) ≡ nearest 32767 z
  unfolding coordinate_at
  number_in k i z h b low high =
      ap (signed 32768) (two_in (unsigned 32768 (nearest 32767 z)) i h b low high)
      ∙ signed_unsigned 32768 (nearest 32767 z) (omega (arith, near 32767 z))

  row_in_law : (m j : ℕ) (r : Row) → Held s (point_start j) (point_bytes m (fitted_row r)) → row_at s j ≡ fitted_row r
  unfolding weight_at
  row_in_law m j r h =
      let k = point_start j in
      let x : coordinate_at s (k + 2) ≡ nearest 32767 r.x = number_in k 2 r.x h (omega arith) refl refl in
      let y : coordinate_at s (k + 4) ≡ nearest 32767 r.y = number_in k 4 r.y h (omega arith) refl refl in
      let z : coordinate_at s (k + 6) ≡ nearest 32767 r.z = number_in k 6 r.z h (omega arith) refl refl in
      let w : weight_at s (k + 8) ≡ nearest 127 r.w =
      ap (signed 128) (byte_of h (k + 8) 8 refl (omega arith))
      ∙ signed_unsigned 128 (nearest 127 r.w) (omega (arith, near 127 r.w)) in
      λ i. record { x = x i; y = y i; z = z i; w = w i }

  face_in_law : (i : ℕ) (f : Face) → Held s (face_start s i) (face_bytes f) → face_at s i ≡ f
  unfolding corner_at
  face_in_law i f h =
      let k = face_start s i in
      let p = byte_of h (k + 2 + 0) 2 (omega arith) (omega arith) in
      let q = byte_of h (k + 2 + 1) 3 (omega arith) (omega arith) in
      let r = byte_of h (k + 2 + 2) 4 (omega arith) (omega arith) in
      λ i. record { p = p i; q = q i; r = r i }

-- ---- the tables are read back

-- what each record of a mapped list reads as
mapped_read : {A : Type 0} (f : A → List ℕ) (c : ℕ) → ((x : A) → length (f x) ≡ c) → (s : List ℕ) (place : ℕ → ℕ) →
    ((i : ℕ) → place (suc i) ≡ place i + c) → (m : A → A) (g : ℕ → A) → ((i : ℕ) (x : A) → Held s (place i) (f (m x)) → g i ≡ m x) →
    (xs : List A) (k : ℕ) → Held s (place k) (flat_map f (map m xs)) → run g k (length (map m xs)) ≡ map m xs
unfolding flat_map
mapped_read f c long s place step m g r [] k h = refl
mapped_read f c long s place step m g r (x ∷ xs) k h =
    ap₂ ◌∷◌ (r k x (left (f (m x)) (flat_map f (map m xs)) h))
    (mapped_read f c long s place step m g r xs (suc k)
    (right (f (m x)) (flat_map f (map m xs)) (step k ∙ ap (λ (n : ℕ). place k + n) (sym (long (m x)))) h))

module _ (t : Tables) where
  abbrev s : List ℕ
  s = bytes_of (fitted t)

  rows_read : (k : ℕ) (rs : List Row) → Held s (point_start k) (flat_map (point_bytes markvx) (map fitted_row rs)) →
      run (row_at s) k (length (map fitted_row rs)) ≡ map fitted_row rs
  rows_read k rs h =
      mapped_read (point_bytes markvx) 9 (λ r. refl) s point_start (λ i. omega arith) fitted_row (row_at s) (row_in_law s markvx) rs k h

  faces_read : (k : ℕ) (fs : List Face) → Held s (face_start s k) (flat_map face_bytes (map fitted_face fs)) →
      run (face_at s) k (length (map fitted_face fs)) ≡ map fitted_face fs
  faces_read k fs h =
      mapped_read face_bytes 5 (λ f. refl) s (face_start s) (λ i. omega arith) fitted_face (face_at s)
      (λ i f. face_in_law s i (fitted_face f)) fs k h

  pub tables_read : tables_of (bytes_of (fitted t)) ≡ fitted t
  tables_read =
      let ra = rows_read 1 t.a.rows (a_rows (fitted t)) in
      let rb = rows_read (length (map fitted_row t.a.rows) + 1) t.b.rows (b_rows (fitted t)) in
      let fa = faces_read 0 t.a.faces (a_faces (fitted t)) in
      let fb = faces_read (length (map fitted_face t.a.faces)) t.b.faces (b_faces (fitted t)) in
      let far = row_in_law s markfp 0 t.far (far_stands (fitted t)) in
      λ i. record { a = record { rows = ra i; faces = fa i }; b = record { rows = rb i; faces = fb i }; far = far i }

-- ---- its marks and its length are a file's, whatever the tables

module _ (t : Tables) where
  abbrev file : List ℕ
  file = bytes_of t

  vertex_marks : (k : ℕ) (rs : List Row) → Held file (point_start k) (flat_map (point_bytes markvx) rs) →
      (j : ℕ) → k ≤ j → j < k + length rs → two_at file (point_start j) ≡ markvx
  vertex_marks k rs h =
      all_give (point_bytes markvx) 9 (λ r. refl) file point_start (λ i. omega arith) (λ j. two_at file (point_start j) ≡ markvx)
      (λ j r l. read_mark markvx l (omega arith) refl refl) rs k h

  face_marks : (k : ℕ) (fs : List Face) → Held file (face_start file k) (flat_map face_bytes fs) →
      (i : ℕ) → k ≤ i → i < k + length fs → two_at file (face_start file i) ≡ markfc
  face_marks k fs h =
      all_give face_bytes 5 (λ f. refl) file (face_start file) (λ i. omega arith) (λ i. two_at file (face_start file i) ≡ markfc)
      (λ i f l. read_mark markfc l (omega arith) refl refl) fs k h

  vertex_mark : (j : ℕ) → 1 ≤ j → j ≤ verts file → two_at file (point_start j) ≡ markvx
  vertex_mark j a b = go (dec_lt j (size t.a + 1))
    where
      go : Dec (j < size t.a + 1) → two_at file (point_start j) ≡ markvx
      go (yes l) = vertex_marks 1 t.a.rows (a_rows t) j a (omega arith)
      go (no n) = vertex_marks (size t.a + 1) t.b.rows (b_rows t) j (omega arith) (omega arith)

  face_mark : (i : ℕ) → i < faces file → two_at file (face_start file i) ≡ markfc
  face_mark i b = go (dec_lt i (length t.a.faces))
    where
      go : Dec (i < length t.a.faces) → two_at file (face_start file i) ≡ markfc
      go (yes l) = face_marks 0 t.a.faces (a_faces t) i (omega arith) (omega arith)
      go (no n) = face_marks (length t.a.faces) t.b.faces (b_faces t) i (omega arith) (omega arith)

  pub marked : Marked (bytes_of t)
  unfolding two_at
  marked =
      record {
        long = file_length t;
        opening = refl;
        far = read_mark markfp (far_stands t) (omega arith) refl refl;
        vertex = vertex_mark;
        face = face_mark;
        end = read_mark marken (end_stands t) (omega arith) refl refl;
      }

-- ---- by a file's numbers

module _ (s : List ℕ) where
  pub point_at : (j : ℕ) → j ≤ verts s → point_in (tables_of s) j ≡ row_at s j
  unfolding point_in
  point_at zero h = refl
  point_at (suc j) h =
      let e : verts_a s + 1 ≡ 1 + verts_a s = omega arith in
      let f : 1 + j ≡ suc j = omega arith in
      ap (λ (k : ℕ). get_or (run (row_at s) 1 (verts_a s) ++ run (row_at s) k (verts_b s)) j no_row) e
      ∙ ap (λ (l : List Row). get_or l j no_row) (run_append (row_at s) 1 (verts_a s) (verts_b s))
      ∙ run_at (row_at s) 1 (verts s) j no_row (omega arith) ∙ ap (row_at s) f

  pub face_at_law : (i : ℕ) → i < faces s → face_in (tables_of s) i ≡ face_at s i
  unfolding face_in
  face_at_law i h =
      let e : faces_in_a s ≡ 0 + faces_in_a s = omega arith in
      let f : 0 + i ≡ i = omega arith in
      ap (λ (k : ℕ). get_or (run (face_at s) 0 (faces_in_a s) ++ run (face_at s) k (faces_in_b s)) i no_face) e
      ∙ ap (λ (l : List Face). get_or l i no_face) (run_append (face_at s) 0 (faces_in_a s) (faces_in_b s))
      ∙ run_at (face_at s) 0 (faces s) i no_face (omega arith) ∙ ap (face_at s) f

mapped_at : {A B : Type 0} (f : A → B) {d : A} {e : B} → f d ≡ e → (xs ys : List A) (i : ℕ) →
    get_or (map f xs ++ map f ys) i e ≡ f (get_or (xs ++ ys) i d)
mapped_at f h [] [] i = sym h
mapped_at f h [] (y ∷ ys) zero = refl
mapped_at f h [] (y ∷ ys) (suc i) = mapped_at f h [] ys i
mapped_at f h (x ∷ xs) ys zero = refl
mapped_at f h (x ∷ xs) ys (suc i) = mapped_at f h xs ys i

no_row_law : fitted_row no_row ≡ no_row
no_row_law =
    let c = ap pos (at_most_low 32767 0 (omega arith)) in
    let w = ap pos (at_most_low 127 0 (omega arith)) in
    λ i. record { x = c i; y = c i; z = c i; w = w i }

no_face_law : fitted_face no_face ≡ no_face
no_face_law = let c = at_most_low 255 0 (omega arith) in λ i. record { p = c i; q = c i; r = c i }

module _ (t : Tables) where
  pub point_fitted : (j : ℕ) → point_in (fitted t) j ≡ fitted_row (point_in t j)
  unfolding point_in
  point_fitted zero = refl
  point_fitted (suc j) = mapped_at fitted_row no_row_law t.a.rows t.b.rows j

  pub face_fitted : (i : ℕ) → face_in (fitted t) i ≡ fitted_face (face_in t i)
  unfolding face_in
  face_fitted i = mapped_at fitted_face no_face_law t.a.faces t.b.faces i
