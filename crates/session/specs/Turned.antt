-- An accepted scene stays accepted when the first and third corners of a face are swapped: it has the same corners, and the same edges.
-- Assumes nothing.
use Rattle.std.specs.Prelude.{◌≡◌, refl, ◌⊎◌, ◌↔◌, ◌≢◌, List, ℕ, zero, suc, ◌+◌, ◌*◌, ◌≤◌, ◌<◌, length, Ok}
use Rattle.std.proofs.Common.{sym, ap, ap₂, ◌∙◌, inl, inr, arith}
use Rattle.std.proofs.Math.Decide.{dec_lt, ℕ_discrete}
use Rattle.laws.specs.Lists.{Each, Some, Number, run, length_run, run_each, each_run, run_same}
use Rattle.scene.specs.Limits.{limits}
use Rattle.scene.specs.Records.{verts_a, verts_b, verts, faces_in_a, faces_in_b, faces, point_start, face_start, end_start}
use Rattle.scene.specs.Tables.{Table, row_at, face_at, tables_of}
use Rattle.scene.specs.Faces.{Corner, Both, FaceOf, Sides, EdgeOk}
use Rattle.scene.specs.Bytes.{byte_at, two_at}
use Rattle.scene.specs.Written.{corners_length, corners_below, corners_above, corners_back}
use Rattle.scene.specs.declared.Face.{Face}
use Rattle.judge.specs.Judge.{judged}
use Rattle.rules.specs.TableRules.{TableOk, TablesOk, Marked}
use Rattle.rules.proofs.Accepted.{accepted}
use Rattle.rules.proofs.Bridge.{by_tables}
use Rattle.rules.specs.Frame.{Same, SameCounts, two_frame, row_frame, face_frame}
use Rattle.session.specs.Session.{reversed_face, reversed_in}

-- ---- a face that is another, or another with two corners swapped

abbrev Alike : Face → Face → Type 0
Alike g f = (g ≡ f) ⊎ (g ≡ reversed_face f)

corner_turned : (i : ℕ) (f : Face) → Corner i f → Corner i (reversed_face f)
corner_turned i f (inl e) = inr (inr e)
corner_turned i f (inr (inl e)) = inr (inl e)
corner_turned i f (inr (inr e)) = inl e

corner_alike : (i : ℕ) {g f : Face} → Alike g f → Corner i f ↔ Corner i g
corner_alike i (inl e) = rw e (λ h. h, λ h. h)
corner_alike i {f = f} (inr e) = rw e (corner_turned i f, corner_turned i (reversed_face f))

both_alike : (i j : ℕ) {g f : Face} → Alike g f → Both i j f ↔ Both i j g
both_alike i j a =
    (λ h. ((corner_alike i a).0 h.0, (corner_alike j a).0 h.1), λ h. ((corner_alike i a).1 h.0, (corner_alike j a).1 h.1))

face_alike : (low high : ℕ) {g f : Face} → Alike g f → FaceOf low high f → FaceOf low high g
face_alike low high (inl e) h = rw e h
face_alike low high (inr e) h =
    rw e (record {
      p = h.r;
      q = h.q;
      r = h.p;
      proper = record { pq = λ d. h.proper.qr (sym d); qr = λ d. h.proper.pq (sym d); rp = λ d. h.proper.rp (sym d) };
    })

sides_alike : (X : ℕ → ℕ → Type 0) → ((a b : ℕ) → X a b → X b a) → {g f : Face} → Alike g f → Sides X f → Sides X g
sides_alike X flip (inl e) h = rw e h
sides_alike X flip (inr e) h = rw e (flip _ _ h.1, flip _ _ h.0, flip _ _ h.2)

-- ---- lists of faces, number by number

number_alike : (P : Face → Type 0) (g f : ℕ → Face) → ((i : ℕ) → P (f i) ↔ P (g i)) → (k n : ℕ) {m : ℕ} → Number P (run f k n) m →
    Number P (run g k n) m
number_alike P g f h k zero Number.none = Number.none
number_alike P g f h k (suc n) (Number.one_more p r) = Number.one_more ((h k).0 p) (number_alike P g f h (suc k) n r)
number_alike P g f h k (suc n) (Number.not_this p r) = Number.not_this (λ q. p ((h k).1 q)) (number_alike P g f h (suc k) n r)

some_alike : (P : Face → Type 0) (g f : ℕ → Face) → ((i : ℕ) → P (f i) → P (g i)) → (k n : ℕ) → Some P (run f k n) → Some P (run g k n)
some_alike P g f h k zero e = e
some_alike P g f h k (suc n) (inl p) = inl (h k p)
some_alike P g f h k (suc n) (inr r) = inr (some_alike P g f h (suc k) n r)

module _ (g f : ℕ → Face) (alike : (i : ℕ) → Alike (g i) (f i)) (k n : ℕ) where
  edge_alike : (a b : ℕ) → EdgeOk (run f k n) a b → EdgeOk (run g k n) a b
  edge_alike a b e = (e.0, number_alike (Both a b) g f (λ i. both_alike a b (alike i)) k n e.1, e.2)

  edge_flip : (a b : ℕ) → EdgeOk (run g k n) a b → EdgeOk (run g k n) b a
  edge_flip a b e = (e.0, flipped, e.2)
    where
      flipped : Number (Both b a) (run g k n) e.0
      flipped = go (run g k n) e.1
        where
          go : (fs : List Face) {m : ℕ} → Number (Both a b) fs m → Number (Both b a) fs m
          go fs Number.none = Number.none
          go fs (Number.one_more p r) = Number.one_more (p.1, p.0) (go _ r)
          go fs (Number.not_this p r) = Number.not_this (λ q. p (q.1, q.0)) (go _ r)

  faces_alike : (v : ℕ) → Each (FaceOf 0 v) (run f k n) → Each (FaceOf 0 v) (run g k n)
  faces_alike v h = run_each (FaceOf 0 v) g k n (λ i a b. face_alike 0 v (alike i) (each_run (FaceOf 0 v) f k n h i a b))

  edges_alike : Each (Sides (EdgeOk (run f k n))) (run f k n) → Each (Sides (EdgeOk (run g k n))) (run g k n)
  edges_alike h =
      run_each (Sides (EdgeOk (run g k n))) g k n
      (λ i a b.
      let old = each_run (Sides (EdgeOk (run f k n))) f k n h i a b in
      sides_alike (EdgeOk (run g k n)) edge_flip (alike i) (edge_alike _ _ old.0, edge_alike _ _ old.1, edge_alike _ _ old.2))

  used_alike : (i : ℕ) → Some (Corner i) (run f k n) → Some (Corner i) (run g k n)
  used_alike i = some_alike (Corner i) g f (λ m. (corner_alike i (alike m)).0) k n

-- a solid with the same rows, and faces alike
table_alike : (g f : ℕ → Face) → ((i : ℕ) → Alike (g i) (f i)) → (k n : ℕ) (t' t : Table) → t'.rows ≡ t.rows → t'.faces ≡ run g k n →
    t.faces ≡ run f k n → TableOk limits t → TableOk limits t'
table_alike g f alike k n t' t r d e ok =
    let old : TableOk limits (record { rows = t.rows; faces = run f k n }) = rw (← e) ok in
    let z : length (run f k n) ≡ length (run g k n) = length_run f k n ∙ sym (length_run g k n) in
    record {
      vertices = rw r ok.vertices;
      number = rw (d, ← z) old.number;
      rows = rw r ok.rows;
      corners = rw (r, d) (faces_alike g f alike k n (length t.rows) old.corners);
      used = rw (r, d) (λ i h. used_alike g f alike k n i (old.used i h));
      edges = rw d (edges_alike g f alike k n old.edges);
    }

-- ---- the scene

module _ (s : List ℕ) (i : ℕ) where
  abbrev at : ℕ
  at = face_start s i

  abbrev s' : List ℕ
  s' = reversed_in s s i

  front_same : (k n : ℕ) → k + n ≤ 15 + verts s * 9 → Same s' s k n
  front_same k n h m a b = corners_below s at (reversed_face (face_at s i)) m (omega arith)

  counts_same : SameCounts s' s
  counts_same = front_same 2 4 (omega arith)

  apart : (k m : ℕ) → (i < k → at + 5 ≤ m) → (¬ (i < k) → m < at + 2) → byte_at s' m ≡ byte_at s m
  apart k m above below = go (dec_lt i k)
    where
      go : Dec (i < k) → byte_at s' m ≡ byte_at s m
      go (yes l) = corners_above s at (reversed_face (face_at s i)) m (above l)
      go (no l) = corners_below s at (reversed_face (face_at s i)) m (below l)

  mark_same : (k : ℕ) → Same s' s (face_start s k) 2
  mark_same k m a b = apart k m (λ l. omega arith) (λ l. omega arith)

  other_same : (k : ℕ) → k ≢ i → Same s' s (face_start s k) 5
  other_same k d m a b = apart k m (λ l. omega arith) (λ l. omega arith)

  row_same : (j : ℕ) → j ≤ verts s → row_at s' j ≡ row_at s j
  row_same j h = row_frame s' s j (front_same (point_start j) 9 (omega arith))

  marked_same : Marked s → Marked s'
  marked_same m =
      let va = counts_same 2 (omega arith) (omega arith) in
      let fa = counts_same 3 (omega arith) (omega arith) in
      let vb = counts_same 4 (omega arith) (omega arith) in
      let fb = counts_same 5 (omega arith) (omega arith) in
      record {
        long = corners_length s at (reversed_face (face_at s i)) ∙ m.long ∙ omega arith;
        opening = two_frame s' s 0 (front_same 0 2 (omega arith)) ∙ m.opening;
        far = two_frame s' s (point_start 0) (front_same 6 2 (omega arith)) ∙ m.far;
        vertex = λ j a b. two_frame s' s (point_start j) (front_same (point_start j) 2 (omega arith)) ∙ m.vertex j a (omega arith);
        face = λ k b. ap (two_at s') (omega arith) ∙ two_frame s' s (face_start s k) (mark_same k) ∙ m.face k (omega arith);
        end = ap (two_at s') (omega arith) ∙ two_frame s' s (end_start s) (mark_same (faces s)) ∙ m.end;
      }

  module _ (room : at + 5 ≤ length s) where
    alike : (k : ℕ) → Alike (face_at s' k) (face_at s k)
    alike k = go (ℕ_discrete k i)
      where
        go : Dec (k ≡ i) → Alike (face_at s' k) (face_at s k)
        go (yes e) = inr (ap (face_at s') e ∙ corners_back s i (reversed_face (face_at s i)) room ∙ ap (λ (k : ℕ). reversed_face (face_at s k))
            (sym e))
        go (no d) = inl (face_frame s' s counts_same k (other_same k d))

    tables_same : TablesOk limits (tables_of s) → TablesOk limits (tables_of s')
    tables_same t =
        let va : verts_a s' ≡ verts_a s = counts_same 2 (omega arith) (omega arith) in
        let fa : faces_in_a s' ≡ faces_in_a s = counts_same 3 (omega arith) (omega arith) in
        let vb : verts_b s' ≡ verts_b s = counts_same 4 (omega arith) (omega arith) in
        let fb : faces_in_b s' ≡ faces_in_b s = counts_same 5 (omega arith) (omega arith) in
        let ra : (tables_of s').a.rows ≡ (tables_of s).a.rows =
        ap (run (row_at s') 1) va ∙ run_same (row_at s') (row_at s) 1 (verts_a s) (λ j a b. row_same j (omega arith)) in
        let rb : (tables_of s').b.rows ≡ (tables_of s).b.rows =
        ap₂ (λ (m n : ℕ). run (row_at s') (m + 1) n) va vb
        ∙ run_same (row_at s') (row_at s) (verts_a s + 1) (verts_b s) (λ j a b. row_same j (omega arith)) in
        record {
          a = table_alike (face_at s') (face_at s) alike 0 (faces_in_a s) (tables_of s').a (tables_of s).a ra
              (ap (run (face_at s') 0) fa) refl t.a;
          b = table_alike (face_at s') (face_at s) alike (faces_in_a s) (faces_in_b s) (tables_of s').b (tables_of s).b rb
              (ap₂ (run (face_at s')) fa fb) refl t.b;
          far = rw (row_same 0 (omega arith)) t.far;
          somewhere = rw (row_same 0 (omega arith)) t.somewhere;
        }

    pub turned_accepted : judged s ≡ Ok tt → judged (reversed_in s s i) ≡ Ok tt
    turned_accepted q =
        let m = (by_tables limits s).0 ((accepted limits s).0 q) in
        (accepted limits s').1 ((by_tables limits s').1 (marked_same m.0, tables_same m.1))
