-- A bench is opened exactly from two accepted scenes with one fixture, and 22 is given exactly where the fixtures differ. Assumes nothing.
use Rattle.std.specs.Prelude.{◌≡◌, ◌↔◌, Bool, not, ℕ, ◌+◌, ◌*◌, get_or, Ok, Err}
use Rattle.std.proofs.Math.Path.{refl, sym, ap}
use Rattle.std.proofs.Common.{◌∙◌, subst, arith, eq-eqb}
use Rattle.std.proofs.Math.Bool.{true, false}
use mathlib.Core.List.{List, flat_map}
use Rattle.std.proofs.Math.ListN.{length}
use Rattle.laws.specs.Decides.{decides}
use Rattle.laws.specs.Lists.{length_run}
use Rattle.laws.specs.None.{none_iff}
use Rattle.scene.specs.Bytes.{byte_at}
use Rattle.scene.specs.Limits.{limits}
use Rattle.scene.specs.Records.{verts_a, verts_b, faces_in_a, faces_in_b, point_start, face_start, markfp, markvx}
use Rattle.scene.specs.Read.{size_a, size_b}
use Rattle.scene.specs.Tables.{size, face_at, tables_of}
use Rattle.judge.specs.Judge.{judged}
use Rattle.judge.specs.Judge.{Judged}
use Rattle.rules.specs.Held.{Held, byte_of, length_all}
use Rattle.rules.specs.ReadBack.{far_stands, b_rows, b_faces}
use Rattle.rules.specs.Write.{point_bytes, face_bytes, bytes_of}
use Rattle.rules.specs.Write.{Bytes}
use Rattle.rules.proofs.Written.{accepted_written}
use Rattle.bench_moves.specs.Bench.{unless, then_scene, differ_at, same_bytes, same_counts, same_far}
use Rattle.bench_moves.specs.Bench.{same_vertices, same_faces, is_shared, open_fault}
use Rattle.bench_moves.specs.declared.Fault.TheVariants.{Differing}
use Rattle.bench_moves.specs.Bench.{Answer}
use Rattle.theorem_bench.specs.Effect.{done_never, unless_done}
use Rattle.theorem_bench.specs.Fixture.{Fixture, fixture_of, shared_fixture}

-- ---- the fixture's bytes in an accepted scene

module _ (s : List ℕ) (bytes : Bytes s) (q : judged s ≡ Ok tt) where
  written : bytes_of (tables_of s) ≡ s
  written = accepted_written limits s bytes q

  far_held : Held s (point_start 0) (point_bytes markfp (fixture_of s).far)
  far_held = subst (λ (l : List ℕ). Held l (point_start 0) (point_bytes markfp (fixture_of s).far)) written (far_stands (tables_of s))

  abbrev vertices : List ℕ
  vertices = flat_map (point_bytes markvx) (fixture_of s).solid.rows

  rows_held : Held s (point_start (verts_a s + 1)) vertices
  rows_held =
      subst (λ (n : ℕ). Held s (point_start (n + 1)) vertices) (size_a s)
      (subst (λ (l : List ℕ). Held l (point_start (size (tables_of s).a + 1)) vertices) written (b_rows (tables_of s)))

  abbrev faces : List ℕ
  faces = flat_map face_bytes (fixture_of s).solid.faces

  faces_held : Held s (face_start s (faces_in_a s)) faces
  faces_held =
      subst (λ (n : ℕ). Held s (face_start s n) faces) (length_run (face_at s) 0 (faces_in_a s))
      (subst (λ (l : List ℕ). Held l (face_start l (length (tables_of s).a.faces)) faces) written (b_faces (tables_of s)))

held_same : (s t : List ℕ) (i j n : ℕ) (l m : List ℕ) → Held s i l → Held t j m → l ≡ m → n ≡ length l → same_bytes s i t j n ≡ true
unfolding same_bytes differ_at
held_same s t i j n l m h k e b =
    ap not
    ((none_iff (differ_at s i t j) 0 n).1
    (λ x y z.
    ap not
    (eq-eqb (byte_at s (i + x)) (byte_at t (j + x))
    (byte_of h (i + x) x refl (omega arith) ∙ ap (λ (l : List ℕ). get_or l x 0) e
    ∙ sym (byte_of k (j + x) x refl (omega (arith, ap length e)))))))

module _ (s t : List ℕ) (bs : Bytes s) (bt : Bytes t) (qs : judged s ≡ Ok tt) (qt : judged t ≡ Ok tt) where
  pub fixture_shared : fixture_of s ≡ fixture_of t → is_shared s t ≡ true
  unfolding is_shared same_counts same_far same_vertices same_faces
  fixture_shared e =
      let vb : verts_b s ≡ verts_b t = sym (size_b s) ∙ ap (λ (f : Fixture). size f.solid) e ∙ size_b t in
      let fb : faces_in_b s ≡ faces_in_b t =
      sym (length_run (face_at s) (faces_in_a s) (faces_in_b s)) ∙ ap (λ (f : Fixture). length f.solid.faces) e
      ∙ length_run (face_at t) (faces_in_a t) (faces_in_b t) in
      let far = held_same s t _ _ 9 _ _ (far_held s bs qs) (far_held t bt qt) (ap (λ (f : Fixture). point_bytes markfp f.far) e) refl in
      let rows = held_same s t _ _ (verts_b s * 9) _ _ (rows_held s bs qs) (rows_held t bt qt)
      (ap (λ (f : Fixture). flat_map (point_bytes markvx) f.solid.rows) e)
      (sym (length_all (point_bytes markvx) 9 (λ r. refl) (tables_of s).b.rows ∙ ap (λ (n : ℕ). n * 9) (size_b s))) in
      let faces = held_same s t _ _ (faces_in_b s * 5) _ _ (faces_held s bs qs) (faces_held t bt qt)
      (ap (λ (f : Fixture). flat_map face_bytes f.solid.faces) e)
      (sym (length_all face_bytes 5 (λ f. refl) (tables_of s).b.faces
      ∙ ap (λ (n : ℕ). n * 5) (length_run (face_at s) (faces_in_a s) (faces_in_b s)))) in
      simp decides ((vb, fb), (far, (rows, faces)))

-- ---- opening

then_done : (j : Judged) (k : Answer) → then_scene j k ≡ Ok tt → (j ≡ Ok tt) × (k ≡ Ok tt)
unfolding then_scene
then_done (Ok _) k e = (refl, e)
then_done (Err r) k e = absurd (done_never (sym e))

pub record Opens (s t : List ℕ) : Type 0 where
  pub first : judged s ≡ Ok tt
  pub second : judged t ≡ Ok tt
  pub fixture : fixture_of s ≡ fixture_of t

pub opens : (s t : List ℕ) → open_fault s t ≡ Ok tt → Opens s t
unfolding open_fault
opens s t e =
    let a = then_done _ _ e in
    let b = then_done _ _ a.1 in
    record { first = a.0; second = b.0; fixture = shared_fixture s t (unless_done _ _ _ b.1).0 }

module _ (s t : List ℕ) (bs : Bytes s) (bt : Bytes t) where
  pub open_iff : (open_fault s t ≡ Ok tt) ↔ Opens s t
  unfolding open_fault then_scene unless
  open_iff = (opens s t, λ o. rw (o.first, o.second, fixture_shared s t bs bt o.first o.second o.fixture))

  -- 22, of two accepted scenes
  pub differing_iff : judged s ≡ Ok tt → judged t ≡ Ok tt →
      (open_fault s t ≡ Err Differing) ↔ (fixture_of s ≡ fixture_of t → ⊥)
  unfolding open_fault then_scene unless
  differing_iff p q = (
    λ e f. done_never (sym (open_iff.1 (record { first = p; second = q; fixture = f })) ∙ e),
    λ n. rw (p, q) (go (is_shared s t) (λ e. n (shared_fixture s t e))),
  )
    where
      go : (b : Bool) → (b ≡ true → ⊥) → unless b Differing (Ok tt) ≡ Err Differing
      go true n = absurd (n refl)
      go false n = refl
