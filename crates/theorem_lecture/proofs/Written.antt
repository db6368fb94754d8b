-- The scene with A and B exchanged, written from the tables: it is accepted, and its tables read back. Assumes nothing.
use Rattle.std.specs.Prelude.{◌≡◌, List, ℕ, ◌+◌, ◌-◌, ◌≤◌, ◌<◌, length, get_or, Ok}
use Rattle.std.proofs.Common.{sym, ap, ◌∙◌, arith}
use Rattle.std.proofs.Math.Decide.{dec_lt}
use Rattle.laws.specs.Lists.{run_at, length_run}
use Rattle.scene.specs.Faces.{FaceOf}
use Rattle.scene.specs.Limits.{limits}
use Rattle.scene.specs.Read.{size_a, size_b, row_is, far_is, face_a, face_b}
use Rattle.scene.specs.Records.{verts_a, verts_b, faces_in_a, faces_in_b, verts}
use Rattle.scene.specs.Tables.{Tables, tables_of, face, size, raise, row_at, face_at, no_row, no_face}
use Rattle.scene.specs.declared.Face.{Face}
use Rattle.judge.specs.Judge.{judged}
use Rattle.rules.proofs.Accepted.{accepted}
use Rattle.rules.proofs.Bridge.{by_tables, limits_fit}
use Rattle.rules.proofs.Files.{file_accepted}
use Rattle.rules.proofs.Given.{face_of_a, face_of_b}
use Rattle.rules.specs.ReadBack.{read_back}
use Rattle.rules.specs.TableRules.{TablesOk}
use Rattle.orient.specs.Signs.{Upto}
use Rattle.theorem_lecture.specs.Lecture.{rows_of, points_of}
use Rattle.theorem_lecture.specs.Renumbered.{renamed}
use Rattle.theorem_lecture.specs.Exchange.{to, Exchanged, exchanged_bytes}
use Rattle.theorem_lecture.proofs.Numbers.{of_a, of_b, of_far}

module _ (s : List ℕ) (ok : judged s ≡ Ok tt) where
  abbrev other : Tables
  other = record { a = (tables_of s).b; b = (tables_of s).a; far = (tables_of s).far }

  abbrev t : List ℕ
  t = exchanged_bytes s

  other_ok : TablesOk limits other
  other_ok =
      let o = ((by_tables limits s).0 ((accepted limits s).0 ok)).1 in record { a = o.b; b = o.a; far = o.far; somewhere = o.somewhere }

  same : tables_of t ≡ other
  unfolding exchanged_bytes
  same = read_back other limits_fit other_ok

  other_accepted : judged t ≡ Ok tt
  unfolding exchanged_bytes
  other_accepted = file_accepted limits_fit other other_ok

  -- ---- its counts

  verts_a_law : verts_a t ≡ verts_b s
  verts_a_law = sym (size_a t) ∙ ap (λ (k : Tables). size k.a) same ∙ size_b s

  verts_b_law : verts_b t ≡ verts_a s
  verts_b_law = sym (size_b t) ∙ ap (λ (k : Tables). size k.b) same ∙ size_a s

  faces_a_law : faces_in_a t ≡ faces_in_b s
  faces_a_law =
      sym (length_run (face_at t) 0 (faces_in_a t)) ∙ ap (λ (k : Tables). length k.a.faces) same
      ∙ length_run (face_at s) (faces_in_a s) (faces_in_b s)

  faces_b_law : faces_in_b t ≡ faces_in_a s
  faces_b_law =
      sym (length_run (face_at t) (faces_in_a t) (faces_in_b t)) ∙ ap (λ (k : Tables). length k.b.faces) same
      ∙ length_run (face_at s) 0 (faces_in_a s)

  -- ---- its rows and its faces, as they stand in the file

  row_a : (i : ℕ) → i < verts_b s → row_at t (1 + i) ≡ row_at s (verts_a s + 1 + i)
  row_a i l =
      sym (run_at (row_at t) 1 (verts_a t) i no_row (omega (arith, verts_a_law))) ∙ ap (λ (k : Tables). get_or k.a.rows i no_row) same
      ∙ run_at (row_at s) (verts_a s + 1) (verts_b s) i no_row l

  row_b : (i : ℕ) → i < verts_a s → row_at t (verts_a t + 1 + i) ≡ row_at s (1 + i)
  row_b i l =
      sym (run_at (row_at t) (verts_a t + 1) (verts_b t) i no_row (omega (arith, verts_b_law)))
      ∙ ap (λ (k : Tables). get_or k.b.rows i no_row) same ∙ run_at (row_at s) 1 (verts_a s) i no_row l

  stored_a : (i : ℕ) → i < faces_in_b s → face_at t (0 + i) ≡ face_at s (faces_in_a s + i)
  stored_a i l =
      sym (run_at (face_at t) 0 (faces_in_a t) i no_face (omega (arith, faces_a_law))) ∙ ap (λ (k : Tables). get_or k.a.faces i no_face) same
      ∙ run_at (face_at s) (faces_in_a s) (faces_in_b s) i no_face l

  stored_b : (i : ℕ) → i < faces_in_a s → face_at t (faces_in_a t + i) ≡ face_at s (0 + i)
  stored_b i l =
      sym (run_at (face_at t) (faces_in_a t) (faces_in_b t) i no_face (omega (arith, faces_b_law)))
      ∙ ap (λ (k : Tables). get_or k.b.faces i no_face) same ∙ run_at (face_at s) 0 (faces_in_a s) i no_face l

  -- ---- by number

  rows : (i : ℕ) → Upto (points_of s) i → rows_of t (to s i) ≡ rows_of s i
  rows i u = by (dec_lt (verts_a s) i) (dec_lt (verts s) i)
    where
      by : Dec (verts_a s < i) → Dec (verts s < i) → rows_of t (to s i) ≡ rows_of s i
      by (no l) k =
          let e : to s i ≡ verts_a t + 1 + (i - 1) = of_a (verts_a s) (verts_b s) i u.0 (omega arith) ∙ omega (arith, verts_a_law) in
          ap (rows_of t) e ∙ row_is t (verts_a t + 1 + (i - 1)) (omega arith) (omega (arith, verts_a_law, verts_b_law)) ∙ row_b (i - 1) (omega arith)
          ∙ ap (row_at s) (omega arith) ∙ sym (row_is s i u.0 (omega arith))
      by (yes l) (no k) =
          let e : to s i ≡ 1 + (i - (verts_a s + 1)) = of_b (verts_a s) (verts_b s) i l (omega arith) ∙ omega arith in
          ap (rows_of t) e ∙ row_is t (1 + (i - (verts_a s + 1))) (omega arith) (omega (arith, verts_a_law, verts_b_law))
          ∙ row_a (i - (verts_a s + 1)) (omega arith) ∙ ap (row_at s) (omega arith) ∙ sym (row_is s i u.0 (omega arith))
      by (yes l) (yes k) =
          far_is t (of_far (verts_a s) (verts_b s) i k ∙ omega (arith, verts_a_law, verts_b_law)) ∙ ap (λ (k : Tables). k.far) same
          ∙ sym (far_is s (omega arith))

  raised : (f : Face) → FaceOf 0 (verts_a s) f → raise (verts_a t) f ≡ renamed (to s) f
  raised f c =
      let p = number f.p c.p.0 c.p.1 in
      let q = number f.q c.q.0 c.q.1 in
      let r = number f.r c.r.0 c.r.1 in
      λ i. record { p = p i; q = q i; r = r i }
    where
      number : (i : ℕ) → 1 ≤ i → i ≤ verts_a s → verts_a t + i ≡ to s i
      number i a l = omega (arith, verts_a_law, of_a (verts_a s) (verts_b s) i a l)

  lowered : (f : Face) → FaceOf (verts_a s) (verts s) (raise (verts_a s) f) → f ≡ renamed (to s) (raise (verts_a s) f)
  lowered f c =
      let p = number f.p (omega (arith, c.p)) (omega (arith, c.p)) in
      let q = number f.q (omega (arith, c.q)) (omega (arith, c.q)) in
      let r = number f.r (omega (arith, c.r)) (omega (arith, c.r)) in
      λ i. record { p = p i; q = q i; r = r i }
    where
      number : (i : ℕ) → 1 ≤ i → i ≤ verts_b s → i ≡ to s (verts_a s + i)
      number i l m = omega (arith, of_b (verts_a s) (verts_b s) (verts_a s + i) (omega arith) (omega arith))

  faces_of_a : (i : ℕ) → i < faces_in_a s → face (tables_of t) (faces_in_b s + 1 + i) ≡ renamed (to s) (face (tables_of s) (0 + 1 + i))
  faces_of_a i l =
      let e : face (tables_of s) (0 + 1 + i) ≡ face_at s (0 + i) = face_a s (0 + 1 + i) (omega arith) (omega arith)
      ∙ ap (face_at s) (omega arith) in
      let c = face_of_a limits s ok (0 + 1 + i) (omega arith) (omega arith) in
      face_b t (faces_in_b s + 1 + i) (omega (arith, faces_a_law)) (omega (arith, faces_a_law, faces_b_law))
      ∙ ap (λ (j : ℕ). raise (verts_a t) (face_at t j)) (omega (arith, faces_a_law)) ∙ ap (raise (verts_a t)) (stored_b i l)
      ∙ ap (raise (verts_a t)) (sym e) ∙ raised (face (tables_of s) (0 + 1 + i)) c

  faces_of_b : (i : ℕ) → i < faces_in_b s → face (tables_of t) (0 + 1 + i) ≡ renamed (to s) (face (tables_of s) (faces_in_a s + 1 + i))
  faces_of_b i l =
      let e : face (tables_of s) (faces_in_a s + 1 + i) ≡ raise (verts_a s) (face_at s (faces_in_a s + i)) =
      face_b s (faces_in_a s + 1 + i) (omega arith) (omega arith) ∙ ap (λ (j : ℕ). raise (verts_a s) (face_at s j)) (omega arith) in
      let c = face_of_b limits s ok (faces_in_a s + 1 + i) (omega arith) (omega arith) in
      face_a t (0 + 1 + i) (omega arith) (omega (arith, faces_a_law)) ∙ ap (face_at t) (omega arith) ∙ stored_a i l
      ∙ lowered (face_at s (faces_in_a s + i)) (rw e at c) ∙ ap (renamed (to s)) (sym e)

pub exchange_written : (s : List ℕ) → judged s ≡ Ok tt → (judged (exchanged_bytes s) ≡ Ok tt) × Exchanged s (exchanged_bytes s)
exchange_written s ok = (
  other_accepted s ok,
  record {
    verts_a_law = verts_a_law s ok;
    verts_b_law = verts_b_law s ok;
    faces_a_law = faces_a_law s ok;
    faces_b_law = faces_b_law s ok;
    rows = rows s ok;
    of_a = faces_of_a s ok;
    of_b = faces_of_b s ok;
  },
)
