-- The fixture of a scene, which the two groups share: solid B and the far point. What opening compares, what a change of one row does to
-- it. Assumes nothing.
use Rattle.std.specs.Prelude.{◌≡◌, refl, ◌≢◌, true, cond, List, ◌∷◌, ℕ, zero, suc, ◌+◌, ◌*◌, ◌-◌, ◌≤◌, ◌<◌, leb, set}
use Rattle.std.proofs.Common.{sym, ◌∙◌, arith}
use Rattle.std.proofs.Math.Path.{ap, ap₂}
use Rattle.std.proofs.Math.Decide.{dec_lt}
use borrow.Author.Tests.{not-true, not-false, eqb-true, le-leb, lt-leb}
use Rattle.laws.specs.Decides.{decides}
use Rattle.laws.specs.Lists.{run, run_same}
use Rattle.laws.specs.None.{none_iff}
use Rattle.scene.specs.Bytes.{byte_at, two_at, coordinate_at, weight_at, signed}
use Rattle.scene.specs.Records.{verts_a, verts_b, verts, faces_in_a, faces_in_b, point_start, face_start}
use Rattle.scene.specs.Tables.{Table, size, row_at, face_at, corner_at, tables_of}
use Rattle.scene.specs.Read.{size_b}
use Rattle.scene.specs.declared.Row.{Row}
use Rattle.rules.specs.Frame.{SameCounts, row_frame, face_frame}
use Rattle.session.specs.Changes.{RowChanged}
use Rattle.bench_moves.specs.Bench.{differ_at, same_bytes, same_counts, same_far, same_vertices, same_faces, is_shared}

pub record Fixture : Type 0 where
  pub solid : Table
  pub far : Row

abbrev pub fixture_of : List ℕ → Fixture
fixture_of s = record { solid = (tables_of s).b; far = (tables_of s).far }

-- with v for its vertex n, or behind those for its far point
abbrev pub moved_fixture : Fixture → ℕ → Row → Fixture
moved_fixture f n v =
    cond (leb n (size f.solid))
    (record { solid = record { rows = set f.solid.rows (n - 1) v; faces = f.solid.faces }; far = f.far })
    (record { solid = f.solid; far = v })

-- ---- lists made from numbers

module _ {A : Type 0} where
  run_shift : (f g : ℕ → A) (k l n : ℕ) → ((i : ℕ) → i < n → f (k + i) ≡ g (l + i)) → run f k n ≡ run g l n
  run_shift f g k l zero h = refl
  run_shift f g k l (suc n) h =
      ap₂ ◌∷◌ (ap f (omega arith) ∙ h 0 (omega arith) ∙ ap g (omega arith))
      (run_shift f g (suc k) (suc l) n (λ i b. ap f (omega arith) ∙ h (suc i) (omega arith) ∙ ap g (omega arith)))

  run_set : (f g : ℕ → A) (k n i : ℕ) (v : A) → i < n → g (k + i) ≡ v → ((m : ℕ) → m ≢ k + i → g m ≡ f m) → run g k n ≡ set (run f k n) i v
  run_set f g k zero i v b e h = absurd (omega arith)
  run_set f g k (suc n) zero v b e h = ap₂ ◌∷◌ (ap g (omega arith) ∙ e) (run_same g f (suc k) n (λ m x y. h m (omega arith)))
  run_set f g k (suc n) (suc i) v b e h =
      ap₂ ◌∷◌ (h k (omega arith)) (run_set f g (suc k) n i v (omega arith) (ap g (omega arith) ∙ e) (λ m d. h m (λ q. d (omega arith))))

-- ---- what opening compares is the fixture

module _ (s t : List ℕ) where
  same_at : (i j n : ℕ) → same_bytes s i t j n ≡ true → (m : ℕ) → m < n → byte_at s (i + m) ≡ byte_at t (j + m)
  unfolding same_bytes differ_at
  same_at i j n e m b = eqb-true _ _ (not-false _ ((none_iff (differ_at s i t j) 0 n).0 (not-true _ e) m (omega arith) b))

  row_shift : (j k : ℕ) → ((m : ℕ) → m < 9 → byte_at s (point_start j + m) ≡ byte_at t (point_start k + m)) → row_at s j ≡ row_at t k
  unfolding coordinate_at two_at weight_at
  row_shift j k h =
      let at : (m : ℕ) → m < 8 → coordinate_at s (point_start j + m) ≡ coordinate_at t (point_start k + m) =
      λ m b.
      let next : byte_at s (point_start j + m + 1) ≡ byte_at t (point_start k + m + 1) =
      ap (byte_at s) (omega arith) ∙ h (m + 1) (omega arith) ∙ ap (byte_at t) (omega arith) in
      ap₂ (λ (x y : ℕ). signed 32768 (x + y * 256)) (h m (omega arith)) next in
      let x = at 2 (omega arith) in
      let y = at 4 (omega arith) in
      let z = at 6 (omega arith) in
      let w = ap (signed 128) (h 8 (omega arith)) in
      λ i. record { x = x i; y = y i; z = z i; w = w i }

  face_shift : (j k : ℕ) → ((m : ℕ) → m < 5 → byte_at s (face_start s j + m) ≡ byte_at t (face_start t k + m)) → face_at s j ≡ face_at t k
  unfolding corner_at
  face_shift j k h =
      let at : (m : ℕ) → m < 3 → corner_at s j m ≡ corner_at t k m =
      λ m b. ap (byte_at s) (omega arith) ∙ h (2 + m) (omega arith) ∙ ap (byte_at t) (omega arith) in
      let p = at 0 (omega arith) in
      let q = at 1 (omega arith) in
      let r = at 2 (omega arith) in
      λ i. record { p = p i; q = q i; r = r i }

  pub shared_fixture : is_shared s t ≡ true → fixture_of s ≡ fixture_of t
  unfolding is_shared same_counts same_far same_vertices same_faces
  shared_fixture e =
      let c = simp decides at e in
      let vb : verts_b s ≡ verts_b t = c.0.0 in
      let fb : faces_in_b s ≡ faces_in_b t = c.0.1 in
      let far = row_shift 0 0 (same_at (point_start 0) (point_start 0) 9 c.1.0) in
      let rows = run_shift (row_at s) (row_at t) (verts_a s + 1) (verts_a t + 1) (verts_b s)
      (λ i b. row_shift (verts_a s + 1 + i) (verts_a t + 1 + i)
      (λ m d. ap (byte_at s) (omega arith) ∙ same_at _ _ _ c.1.1.0 (i * 9 + m) (omega arith) ∙ ap (byte_at t) (omega arith))) in
      let faces = run_shift (face_at s) (face_at t) (faces_in_a s) (faces_in_a t) (faces_in_b s)
      (λ i b. face_shift (faces_in_a s + i) (faces_in_a t + i)
      (λ m d. ap (byte_at s) (omega arith) ∙ same_at _ _ _ c.1.1.1 (i * 5 + m) (omega arith) ∙ ap (byte_at t) (omega arith))) in
      let rows' = rows ∙ ap (run (row_at t) (verts_a t + 1)) vb in
      let faces' = faces ∙ ap (run (face_at t) (faces_in_a t)) fb in
      λ i. record { solid = record { rows = rows' i; faces = faces' i }; far = far i }

-- ---- a scene t that is s with v as the row of the file's point j

module _ (s t : List ℕ) (j : ℕ) (v : Row) (h : RowChanged s j v t) (here : j ≤ verts s) where
  counts_same : SameCounts t s
  counts_same m a b = h.below m (omega arith)

  pub verts_a_law : verts_a t ≡ verts_a s
  verts_a_law = counts_same 2 (omega arith) (omega arith)

  pub verts_b_law : verts_b t ≡ verts_b s
  verts_b_law = counts_same 4 (omega arith) (omega arith)

  other_row : (i : ℕ) → i ≢ j → row_at t i ≡ row_at s i
  other_row i d = row_frame t s i (λ m a b. go m a b (dec_lt j i))
    where
      go : (m : ℕ) → point_start i ≤ m → m < point_start i + 9 → Dec (j < i) → byte_at t m ≡ byte_at s m
      go m a b (yes l) = h.above m (omega arith)
      go m a b (no l) = h.below m (omega arith)

  faces_same : (tables_of t).b.faces ≡ (tables_of s).b.faces
  faces_same =
      ap₂ (run (face_at t)) (counts_same 3 (omega arith) (omega arith)) (counts_same 5 (omega arith) (omega arith))
      ∙ run_same (face_at t) (face_at s) (faces_in_a s) (faces_in_b s) (λ i a b. face_frame t s counts_same i (λ m x y. h.above m (omega arith)))

  rows_counted : (tables_of t).b.rows ≡ run (row_at t) (verts_a s + 1) (verts_b s)
  rows_counted = ap₂ (λ (a b : ℕ). run (row_at t) (a + 1) b) verts_a_law verts_b_law

  rows_same : j ≤ verts_a s → (tables_of t).b.rows ≡ (tables_of s).b.rows
  rows_same l = rows_counted ∙ run_same (row_at t) (row_at s) (verts_a s + 1) (verts_b s) (λ i a b. other_row i (omega arith))

  -- a vertex of A
  pub own_fixture : 1 ≤ j → j ≤ verts_a s → fixture_of t ≡ fixture_of s
  own_fixture a b =
      let rows = rows_same b in
      let far = other_row 0 (omega arith) in
      λ i. record { solid = record { rows = rows i; faces = faces_same i }; far = far i }

  -- vertex n of B
  pub vertex_fixture : (n : ℕ) → 1 ≤ n → n ≤ verts_b s → j ≡ verts_a s + n → fixture_of t ≡ moved_fixture (fixture_of s) n v
  vertex_fixture n a b e =
      let rows = rows_counted
      ∙ run_set (row_at s) (row_at t) (verts_a s + 1) (verts_b s) (n - 1) v (omega arith) (ap (row_at t) (omega arith) ∙ h.row)
      (λ m d. other_row m (λ q. d (omega arith))) in
      let far = other_row 0 (omega arith) in
      let f : fixture_of t
      ≡ record { solid = record { rows = set (tables_of s).b.rows (n - 1) v; faces = (tables_of s).b.faces }; far = row_at s 0 } =
      λ i. record { solid = record { rows = rows i; faces = faces_same i }; far = far i } in
      f ∙ rw (le-leb n (size (tables_of s).b) (omega (arith, size_b s)))

  -- the far point
  pub far_fixture : (n : ℕ) → verts_b s < n → j ≡ 0 → fixture_of t ≡ moved_fixture (fixture_of s) n v
  far_fixture n b e =
      let rows = rows_same (omega arith) in
      let far = ap (row_at t) (sym e) ∙ h.row in
      let f : fixture_of t ≡ record { solid = (tables_of s).b; far = v } =
      λ i. record { solid = record { rows = rows i; faces = faces_same i }; far = far i } in
      f ∙ rw (lt-leb n (size (tables_of s).b) (omega (arith, size_b s)))
