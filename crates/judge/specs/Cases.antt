-- The judge's choices by cases: which solid a face or a point belongs to, and which kind a record is of. Assumes nothing.
use Prim.Native.Nat.{ℕ, zero, suc, ◌+◌, ◌-◌, ◌<◌, ◌≤◌}
use Rattle.std.specs.Prelude.{◌≡◌, Bool, true, List, eqb}
use Rattle.std.proofs.Math.Path.{refl}
use Rattle.std.proofs.Common.{ap, arith}
use Rattle.std.proofs.Math.Bool.{not}
use borrow.Author.Tests.{lt-ltb, le-ltb, le-leb, lt-leb, ne_eqb}
use Rattle.laws.specs.Range.{any_of}
use Rattle.scene.specs.Limits.{Limits, least_weight}
use Rattle.scene.specs.Bytes.{two_at}
use Rattle.scene.specs.Records.{verts_a, verts_b, faces_in_a, verts, faces, last_record, point_start, markfp, markvx}
use Rattle.judge.specs.Judge.{first_fault, nowhere, somewhere_ok, point_mark, point_fault, verts_at, face_fault, end_fault, record_fault}
use Rattle.judge.specs.Judge.{is_corner_of, is_used, sides_ok, closed_at}
use Rattle.judge.specs.Judge.{Judged}

-- the same search, up to the same end
pub first_to : (f : ℕ → Judged) (a : ℕ) {e n : ℕ} → e ≡ n → first_fault f a e ≡ first_fault f a n
first_to f a h = ap (first_fault f a) h

pub vertex_mark : (j : ℕ) → 1 ≤ j → point_mark j ≡ markvx
vertex_mark j h = simp (ne_eqb j 0 (omega arith))

pub vertex_weighs : (j : ℕ) → (j ≡ 0 → ⊥) → 1 ≡ least_weight j
vertex_weighs zero h = absurd (h refl)
vertex_weighs (suc j) h = refl

module _ (s : List ℕ) where
  -- the two bytes n are held to the mark of the file's point j
  pub far_marked : (j : ℕ) {n : ℕ} → j ≡ 0 → n ≡ two_at s 6 → eqb n markfp ≡ eqb (two_at s (point_start j)) (point_mark j)
  far_marked j h e = rw h (ap (λ (k : ℕ). eqb k markfp) e)

  pub vertex_marked : (j : ℕ) {n : ℕ} → (j ≡ 0 → ⊥) → n ≡ two_at s (point_start j) → eqb n markvx ≡ eqb (two_at s (point_start j)) (point_mark j)
  vertex_marked j h e = simp (ne_eqb j 0 h) (ap (λ (k : ℕ). eqb k markvx) e)

  -- the far point's numbers are looked at, no other's
  pub far_somewhere : (j : ℕ) {o : Bool} → j ≡ 0 → o ≡ nowhere s → not o ≡ somewhere_ok s j
  unfolding somewhere_ok
  far_somewhere j h e = rw h (ap not e)

  pub vertex_somewhere : (j : ℕ) → (j ≡ 0 → ⊥) → true ≡ somewhere_ok s j
  unfolding somewhere_ok
  vertex_somewhere zero h = absurd (h refl)
  vertex_somewhere (suc j) h = refl

  pub verts_of_a : (i : ℕ) → i < faces_in_a s → verts_at s i ≡ verts_a s
  unfolding verts_at
  verts_of_a i h = simp (lt-ltb i (faces_in_a s) h)

  pub verts_of_b : (i : ℕ) → faces_in_a s ≤ i → verts_at s i ≡ verts_b s
  unfolding verts_at
  verts_of_b i h = simp (le-ltb i (faces_in_a s) h)

  pub used_of_a : (p : ℕ) → p ≤ verts_a s → is_used s p ≡ any_of (is_corner_of s p) 0 (faces_in_a s)
  unfolding is_used
  used_of_a p h = simp (le-leb p (verts_a s) h)

  pub used_of_b : (p : ℕ) → verts_a s < p → is_used s p ≡ any_of (is_corner_of s (p - verts_a s)) (faces_in_a s) (faces s)
  unfolding is_used
  used_of_b p h = simp (lt-leb p (verts_a s) h)

  pub closed_of_a : (i : ℕ) → i < faces_in_a s → closed_at s i ≡ sides_ok s 0 (faces_in_a s) i
  unfolding closed_at
  closed_of_a i h = simp (lt-ltb i (faces_in_a s) h)

  pub closed_of_b : (i : ℕ) → faces_in_a s ≤ i → closed_at s i ≡ sides_ok s (faces_in_a s) (faces s) i
  unfolding closed_at
  closed_of_b i h = simp (le-ltb i (faces_in_a s) h)

  module _ (l : Limits) (k : ℕ) where
    pub record_point : k < 2 + verts s → record_fault l s k ≡ point_fault l s (k - 1)
    unfolding record_fault
    record_point h = simp (lt-ltb k (2 + verts s) h)

    pub record_face : 2 + verts s ≤ k → k < last_record s → record_fault l s k ≡ face_fault s (k - (2 + verts s))
    unfolding record_fault
    record_face h e = simp (le-ltb k (2 + verts s) h, lt-ltb k (last_record s) e)

    pub record_end : last_record s ≤ k → record_fault l s k ≡ end_fault s
    unfolding record_fault
    record_end h = simp (le-ltb k (2 + verts s) (omega arith), le-ltb k (last_record s) h)
