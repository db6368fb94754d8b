-- What a reader of the bytes finds: the tables' sizes, rows and faces at the scene's numbers. Assumes nothing.
use Rattle.std.specs.Prelude.{◌≡◌, refl}
use Rattle.std.proofs.Common.{sym, ◌∙◌, arith, add-one}
use Rattle.std.proofs.Math.Path.{ap, ap₂}
use mathlib.Core.List.{List, [], ◌∷◌, ◌++◌, map, append_assoc}
use Prim.Native.Nat.{ℕ, zero, suc, ◌+◌, ◌-◌, ◌≤◌, ◌<◌}
use Rattle.std.proofs.Math.ListN.{length, get_or, get_or-append, get_or-eq_default, get_or-map, length-append}
use Rattle.std.proofs.Math.Seq.{get_or-append-add, get_or-append_seam}
use Rattle.laws.specs.Lists.{run, length_run, run_append, run_at}
use Rattle.scene.specs.Bytes.{byte_at}
use Rattle.scene.specs.Records.{verts, verts_a, verts_b, faces, faces_in_a, faces_in_b, face_start}
use Rattle.scene.specs.Tables.{size, points, row, raise, face, row_at, face_at, corner_at, tables_of, no_row, no_face}
use Rattle.scene.specs.declared.Row.{Row}
use Rattle.scene.specs.declared.Face.{Face}

-- inside a list its default does not matter
get_d_same : {A : Type 0} (l : List A) (i : ℕ) (d e : A) → i < length l → get_or l i d ≡ get_or l i e
get_d_same [] i d e h = absurd (omega arith)
get_d_same (x ∷ l) zero d e h = refl
get_d_same (x ∷ l) (suc i) d e h = get_d_same l i d e (omega arith)

length_map : {A B : Type 0} (f : A → B) (l : List A) → length (map f l) ≡ length l
length_map f [] = refl
length_map f (x ∷ l) = ap suc (length_map f l)

module _ (s : List ℕ) where
  pub size_a : size (tables_of s).a ≡ verts_a s
  size_a = length_run (row_at s) 1 (verts_a s)

  pub size_b : size (tables_of s).b ≡ verts_b s
  size_b = length_run (row_at s) (verts_a s + 1) (verts_b s)

  pub points_are : points (tables_of s) ≡ verts s + 1
  points_are = omega (arith, size_a, size_b)

  -- the rows by the scene's numbers, the far point's last
  abbrev rows : List Row
  rows = run (row_at s) 1 (verts s)

  all_rows : (i : ℕ) → row (tables_of s) (suc i) ≡ get_or (rows ++ row_at s 0 ∷ []) i no_row
  unfolding row
  all_rows i =
      let a : List Row = run (row_at s) 1 (verts_a s) in
      let b : List Row = run (row_at s) (verts_a s + 1) (verts_b s) in
      let e : a ++ b ≡ rows = ap (λ (k : ℕ). a ++ run (row_at s) k (verts_b s)) (omega arith)
      ∙ run_append (row_at s) 1 (verts_a s) (verts_b s) in
      ap (λ (l : List Row). get_or l i no_row) (sym (append_assoc a b (row_at s 0 ∷ [])) ∙ ap (λ (l : List Row). l ++ row_at s 0 ∷ []) e)

  long : length rows ≡ verts s
  long = length_run (row_at s) 1 (verts s)

  pub row_is : (i : ℕ) → 1 ≤ i → i ≤ verts s → row (tables_of s) i ≡ row_at s i
  row_is zero a b = absurd (omega arith)
  row_is (suc i) a b =
      all_rows i ∙ get_or-append rows (row_at s 0 ∷ []) no_row i (omega (arith, long)) ∙ run_at (row_at s) 1 (verts s) i no_row (omega arith)
      ∙ ap (row_at s) (omega arith)

  pub far_is : {i : ℕ} → i ≡ verts s + 1 → row (tables_of s) i ≡ row_at s 0
  far_is e =
      ap (row (tables_of s)) e
      ∙ ap (row (tables_of s)) (add-one (verts s)) ∙ all_rows (verts s) ∙ ap (λ (i : ℕ). get_or (rows ++ row_at s 0 ∷ []) i no_row) (sym long)
      ∙ get_or-append_seam rows (row_at s 0) [] no_row

  pub row_zero : {i : ℕ} → i ≡ 0 → row (tables_of s) i ≡ no_row
  unfolding row
  row_zero e = ap (row (tables_of s)) e

  pub row_none : (i : ℕ) → verts s + 1 < i → row (tables_of s) i ≡ no_row
  row_none zero h = absurd (omega arith)
  row_none (suc i) h =
      all_rows i ∙ get_or-eq_default (rows ++ row_at s 0 ∷ []) no_row (omega (arith, long, length-append rows (row_at s 0 ∷ [])))

  -- the faces by the scene's numbers, B's raised
  abbrev of_a : List Face
  of_a = run (face_at s) 0 (faces_in_a s)

  abbrev of_b : List Face
  of_b = run (face_at s) (faces_in_a s) (faces_in_b s)

  long_a : length of_a ≡ faces_in_a s
  long_a = length_run (face_at s) 0 (faces_in_a s)

  pub face_zero : {k : ℕ} → k ≡ 0 → face (tables_of s) k ≡ no_face
  unfolding face
  face_zero e = ap (face (tables_of s)) e

  pub face_a : (k : ℕ) → 1 ≤ k → k ≤ faces_in_a s → face (tables_of s) k ≡ face_at s (k - 1)
  unfolding face
  face_a zero a b = absurd (omega arith)
  face_a (suc k) a b =
      get_or-append of_a (map (raise (size (tables_of s).a)) of_b) no_face k (omega (arith, long_a))
      ∙ run_at (face_at s) 0 (faces_in_a s) k no_face (omega arith) ∙ ap (face_at s) (omega arith)

  pub face_b : (k : ℕ) → faces_in_a s < k → k ≤ faces s → face (tables_of s) k ≡ raise (verts_a s) (face_at s (k - 1))
  unfolding face
  face_b k a b =
      let m : ℕ = size (tables_of s).a in
      let i : ℕ = k - 1 - faces_in_a s in
      let e : k ≡ length (no_face ∷ of_a) + i = omega (arith, long_a) in
      ap (face (tables_of s)) e
      ∙ get_or-append-add (no_face ∷ of_a) (map (raise m) of_b) i no_face
      ∙ get_d_same (map (raise m) of_b) i no_face (raise m no_face)
      (omega (arith, length_map (raise m) of_b, length_run (face_at s) (faces_in_a s) (faces_in_b s)))
      ∙ get_or-map (raise m) of_b i no_face
      ∙ ap₂ raise size_a (run_at (face_at s) (faces_in_a s) (faces_in_b s) i no_face (omega arith) ∙ ap (face_at s) (omega arith))

  pub face_none : (k : ℕ) → faces s < k → face (tables_of s) k ≡ no_face
  unfolding face
  face_none k h =
      let m : ℕ = size (tables_of s).a in
      get_or-eq_default (no_face ∷ of_a ++ map (raise m) of_b) no_face {n = k}
      (omega
      (arith, length-append of_a (map (raise m) of_b), length_map (raise m) of_b, long_a, length_run (face_at s) (faces_in_a s) (faces_in_b s)))

  -- three bytes behind the mark of the file's face i
  pub face_read : (i : ℕ) {at p q r : ℕ} → at ≡ face_start s i → p ≡ byte_at s (at + 2) → q ≡ byte_at s (at + 3) → r ≡ byte_at s (at + 4) →
      ◌≡◌ {A = Face} (record { p = p; q = q; r = r }) (face_at s i)
  unfolding corner_at
  face_read i e p q r =
      let start : ℕ = face_start s i in
      let x : _ ≡ byte_at s (start + 2 + 0) = p ∙ ap (byte_at s) (omega (arith, e)) in
      let y : _ ≡ byte_at s (start + 2 + 1) = q ∙ ap (byte_at s) (omega (arith, e)) in
      let z : _ ≡ byte_at s (start + 2 + 2) = r ∙ ap (byte_at s) (omega (arith, e)) in
      λ j. record { p = x j; q = y j; r = z j }
