-- What the lecturer is answered is told by the fixture's vertex count, the number and the row, and by nothing else. Assumes nothing.
use Rattle.std.specs.Prelude.{◌≡◌, Bool, not, cond, ℕ, ◌+◌, ◌≤◌, leb, length, Ok, Err}
use Rattle.std.proofs.Math.Path.{refl, ap}
use Rattle.std.proofs.Common.{ap₂, ◌∙◌}
use Rattle.std.proofs.Math.Bool.{true, false}
use native.Mathlib.Omega.{arith}
use Rattle.std.proofs.Math.Decide.{dec_le}
use borrow.Author.Tests.{eq-eqb, le-leb, lt-leb}
use Rattle.scene.specs.Limits.{limits, within}
use Rattle.scene.specs.Records.{verts_a, verts_b, verts, length_of}
use Rattle.scene.specs.declared.Row.{Row}
use Rattle.scene.specs.declared.Refusal.TheVariants.{NoSuchNumber, Coordinate, Weight, FarAllZero}
use Rattle.judge.specs.Judge.{refuse_unless, and_then}
use Rattle.judge.specs.Tests.{within_iff}
use Rattle.judge.specs.Judge.{Judged}
use Rattle.session.specs.Session.{scene, is_whole, sizes_of, row_fault, is_nowhere, vertex_fault, far_fault, moved_of, far_moved_of}
use Rattle.session.specs.Kept.{Full}
use Rattle.session.specs.declared.faults.Sizes.{Sizes}
use Rattle.session.specs.declared.Session.{Session}
use Rattle.bench_moves.specs.Bench.{counted, number_fault, scene_moved, placed, placed_in, fixture_moved_by, fixture_moved_of}
use Rattle.theorem_bench.specs.Effect.{full_whole, full_solids, vertex_answer, far_answer}

-- 11, then 5 and 6, and for the far point 14, in the lecturer's numbers, where the fixture has b vertices
unfoldable pub far_row_fault : ℕ → Sizes → Judged
far_row_fault n m = and_then (row_fault 0 n m) (refuse_unless (not (is_nowhere m)) (FarAllZero n) (Ok tt))

unfoldable pub lecturer_fault : (b n : ℕ) → Row → Judged
lecturer_fault b n v = refuse_unless (within 1 (b + 1) n) NoSuchNumber (cond (leb n b) (row_fault 1 n (sizes_of v)) (far_row_fault n (sizes_of v)))

-- ---- a refusal of a row, with another place

placed_row : (least p n : ℕ) (m : Sizes) → placed_in n (row_fault least p m) ≡ row_fault least n m
unfolding row_fault refuse_unless placed_in placed
placed_row least p n m =
    let c = limits.most_coordinate in
    go (leb m.x c) (leb m.y c) (leb m.z c) (within least limits.most_weight m.w)
  where
    go : (a b c d : Bool) →
        placed_in n (refuse_unless a (Coordinate p)
        (refuse_unless b (Coordinate p) (refuse_unless c (Coordinate p) (refuse_unless d (Weight p) (Ok tt)))))
        ≡ refuse_unless a (Coordinate n)
        (refuse_unless b (Coordinate n) (refuse_unless c (Coordinate n) (refuse_unless d (Weight n) (Ok tt))))
    go false b c d = refl
    go true false c d = refl
    go true true false d = refl
    go true true true false = refl
    go true true true true = refl

placed_then : (n : ℕ) (x y : Judged) → placed_in n (and_then x y) ≡ and_then (placed_in n x) (placed_in n y)
unfolding and_then placed_in
placed_then n (Ok _) y = refl
placed_then n (Err r) y = refl

placed_nowhere : (p n : ℕ) (b : Bool) → placed_in n (refuse_unless b (FarAllZero p) (Ok tt)) ≡ refuse_unless b (FarAllZero n)
    (Ok tt)
unfolding refuse_unless placed_in placed
placed_nowhere p n true = refl
placed_nowhere p n false = refl

placed_far : (p n : ℕ) (m : Sizes) → placed_in n (far_row_fault p m) ≡ far_row_fault n m
unfolding far_row_fault
placed_far p n m = placed_then n _ _ ∙ ap₂ and_then (placed_row 0 p n m) (placed_nowhere p n _)

-- ---- the answer

module _ (s : Session) (n : ℕ) (v : Row) (f : Full s) where
  abbrev a : ℕ
  a = verts_a (scene s)

  abbrev b : ℕ
  b = verts_b (scene s)

  whole : is_whole (scene s) ≡ true
  unfolding is_whole
  whole = eq-eqb (length (scene s)) (length_of (scene s)) (full_whole s f)

  vertex_said : 1 ≤ n → n ≤ verts_b (scene s) → placed_in n (moved_of s (verts_a (scene s) + n) v).answer ≡ row_fault 1 n (sizes_of v)
  unfolding vertex_fault refuse_unless
  vertex_said l h =
      ap (placed_in n)
      (vertex_answer s v (a + n) ∙ rw (whole, (within_iff 1 (verts (scene s)) (a + n)).1 (omega arith, omega arith)))
      ∙ placed_row 1 (a + n) n (sizes_of v)

  far_said : placed_in n (far_moved_of s v).answer ≡ far_row_fault n (sizes_of v)
  unfolding far_fault refuse_unless far_row_fault
  far_said = ap (placed_in n) (far_answer s v ∙ rw whole) ∙ placed_far (verts (scene s) + 1) n (sizes_of v)

  scene_said : 1 ≤ n → Dec (n ≤ verts_b (scene s)) →
      placed_in n (scene_moved s (counted (scene s)) n v).answer
      ≡ cond (leb n (verts_b (scene s))) (row_fault 1 n (sizes_of v)) (far_row_fault n (sizes_of v))
  unfolding scene_moved
  scene_said l (yes h) = rw (le-leb n b h) (vertex_said l h)
  scene_said l (no h) = rw (lt-leb n b (omega arith)) far_said

  pub lecturer_told : (fixture_moved_of s n v).answer ≡ lecturer_fault (verts_b (scene s)) n v
  unfolding fixture_moved_of lecturer_fault number_fault refuse_unless
  lecturer_told = rw (full_solids s f) (go (within 1 (b + 1) n) refl)
    where
      go : (t : Bool) → within 1 (b + 1) n ≡ t →
          (fixture_moved_by (cond t (Ok (counted (scene s))) (Err NoSuchNumber)) s n v).answer
          ≡ refuse_unless t NoSuchNumber (cond (leb n b) (row_fault 1 n (sizes_of v)) (far_row_fault n (sizes_of v)))
      go true e = scene_said ((within_iff 1 (b + 1) n).0 e).0 (dec_le n b)
      go false e = refl
