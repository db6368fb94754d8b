-- Where items stand: behind what was read and within the text; and that a count above the number of items left tells as much as any other
-- such count. Assumes nothing.
use Prim.Native.Nat.{ℕ, zero, suc, ◌+◌, ◌<◌, ◌≤◌}
use Rattle.std.proofs.Math.Path.{◌≡◌, refl}
use Rattle.std.specs.Prelude.{List, [], ◌∷◌, Bool, ◌&&◌, drop, eqb, Result, Ok, Err}
use Rattle.std.proofs.Math.Bool.{true, false, cond}
use native.Mathlib.Omega.{arith}
use Rattle.std.proofs.Common.{ltb-true, length-drop}
use Rattle.std.proofs.Math.ListN.{length}
use Rattle.off_items.specs.Items.{separates, begins, comments, gap, word, start_of, word_end, end_of, after}
use Rattle.off_items.specs.Numbers.{minus_at, body_of, is_whole, whole_from, size_from}
use Rattle.off_form.specs.Form.{go_on, wholes, face_from, faces_from}
use Rattle.off_form.specs.declared.Flaw.{Flaw}
use Rattle.off_form.specs.declared.Flaw.TheVariants.{Outside, Sides}

gap_le : (m : Bool) (l : List ℕ) → gap m l ≤ length l
unfolding gap
gap_le m [] = omega arith
gap_le m (c ∷ l) = by (begins m c) (gap_le (comments m c) l)
  where
    by : (b : Bool) {k : ℕ} → k ≤ length l → cond b 0 (suc k) ≤ suc (length l)
    by true h = omega arith
    by false h = omega arith

word_le : (l : List ℕ) → word l ≤ length l
unfolding word
word_le [] = omega arith
word_le (c ∷ l) = by (separates c) (word_le l)
  where
    by : (b : Bool) {k : ℕ} → k ≤ length l → cond b 0 (suc k) ≤ suc (length l)
    by true h = omega arith
    by false h = omega arith

pub start_from : (s : List ℕ) (at : ℕ) → at ≤ start_of s at
unfolding start_of
start_from s at = omega arith

pub start_in : (s : List ℕ) (at : ℕ) → at ≤ length s → start_of s at ≤ length s
unfolding start_of
start_in s at h = omega (arith, gap_le false (drop at s), length-drop at s)

word_in : (s : List ℕ) (k : ℕ) → k ≤ length s → word_end s k ≤ length s
unfolding word_end
word_in s k h = omega (arith, word_le (drop k s), length-drop k s)

pub end_in : (s : List ℕ) (at : ℕ) → at ≤ length s → end_of s at ≤ length s
end_in s at h = word_in s (start_of s at) (start_in s at h)

pub after_in : (s : List ℕ) (k : ℕ) → after s k ≤ length s
after_in s zero = omega arith
after_in s (suc k) = end_in s (after s k) (after_in s k)

-- an item that is a whole number has a byte
body_from : (g : Bool) (s : List ℕ) (i : ℕ) → i ≤ body_of g s i
unfolding body_of
body_from g s i = by (minus_at g s i)
  where
    by : (b : Bool) → i ≤ cond b (i + 1) i
    by true = omega arith
    by false = omega arith

and_first : (a b : Bool) → (a && b) ≡ true → a ≡ true
and_first true b h = refl
and_first false b h = h

pub whole_moves : (g : Bool) (s : List ℕ) (at : ℕ) → whole_from g s at ≡ true → at < end_of s at
unfolding is_whole
whole_moves g s at h =
    omega (arith, start_from s at, body_from g s (start_of s at), ltb-true (body_of g s (start_of s at)) (end_of s at) (and_first _ _ h))

-- ---- what was read ends behind its start, and within the text

pub record Reached (s : List ℕ) (at k : ℕ) : Type 0 where
  pub from : at ≤ k
  pub within : k ≤ length s

module _ (s : List ℕ) where
  pub wholes_reach : (g : Bool) (n at : ℕ) {k : ℕ} → at ≤ length s → wholes g n s at ≡ Ok k → Reached s at k
  unfolding wholes
  wholes_reach g zero at {k} h e = let f : at ≡ k = cc in record { from = omega arith; within = omega arith }
  wholes_reach g (suc n) at {k} h e = by (whole_from g s at) refl (wholes_reach g n (end_of s at) (end_in s at h)) e
    where
      by : (b : Bool) → whole_from g s at ≡ b → (wholes g n s (end_of s at) ≡ Ok k → Reached s (end_of s at) k) →
          cond b (wholes g n s (end_of s at)) (Err (Outside (start_of s at))) ≡ Ok k → Reached s at k
      by true p rest q =
          let r = rest q in
          record { from = omega (arith, r.from, whole_moves g s at p); within = r.within }
      by false p rest q = let z : ◌≡◌ {A = ℕ} 0 1 = cc in absurd (omega arith)

  -- n numbers and m are the same, where there are not as many bytes left
  pub wholes_many : (g : Bool) (n m at : ℕ) → at ≤ length s → length s < n + at → length s < m + at → wholes g n s at ≡ wholes g m s at
  unfolding wholes
  wholes_many g zero m at h a b = absurd (omega arith)
  wholes_many g (suc n) zero at h a b = absurd (omega arith)
  wholes_many g (suc n) (suc m) at h a b = by (whole_from g s at) refl (wholes_many g n m (end_of s at) (end_in s at h))
    where
      by : (b : Bool) → whole_from g s at ≡ b →
          (length s < n + end_of s at → length s < m + end_of s at → wholes g n s (end_of s at) ≡ wholes g m s (end_of s at)) →
          cond b (wholes g n s (end_of s at)) (Err (Outside (start_of s at)))
          ≡ cond b (wholes g m s (end_of s at)) (Err (Outside (start_of s at)))
      by true p rest =
          let l = whole_moves g s at p in
          rest (omega arith) (omega arith)
      by false p rest = refl

  pub face_reach : (at : ℕ) {k : ℕ} → at ≤ length s → face_from s at ≡ Ok k → Reached s (suc at) k
  unfolding face_from
  face_reach at {k} h e = by (whole_from false s at) (eqb (size_from false s at) 3) refl e
    where
      by : (b t : Bool) → whole_from false s at ≡ b →
          cond b (cond t (wholes false 3 s (end_of s at)) (Err (Sides (start_of s at)))) (Err (Outside (start_of s at))) ≡ Ok k →
          Reached s (suc at) k
      by true true p q =
          let r = wholes_reach false 3 (end_of s at) (end_in s at h) q in
          record { from = omega (arith, r.from, whole_moves false s at p); within = r.within }
      by true false p q = let z : ◌≡◌ {A = ℕ} 0 1 = cc in absurd (omega arith)
      by false t p q = let z : ◌≡◌ {A = ℕ} 0 1 = cc in absurd (omega arith)

  pub faces_reach : (n at : ℕ) {k : ℕ} → at ≤ length s → faces_from n s at ≡ Ok k → Reached s at k
  unfolding faces_from
  faces_reach zero at {k} h e = let f : at ≡ k = cc in record { from = omega arith; within = omega arith }
  faces_reach (suc n) at {k} h e = by (face_from s at) refl (λ j. faces_reach n j) e
    where
      by : (r : Result ℕ Flaw) → face_from s at ≡ r → ((j : ℕ) → j ≤ length s → faces_from n s j ≡ Ok k → Reached s j k) →
          go_on r (faces_from n s) ≡ Ok k → Reached s at k
      by (Ok j) p rest q =
          let f = face_reach at h p in
          let r = rest j f.within q in
          record { from = omega (arith, f.from, r.from); within = r.within }
      by (Err f) p rest q = let z : ◌≡◌ {A = ℕ} 0 1 = cc in absurd (omega arith)

  pub faces_many : (n m at : ℕ) → at ≤ length s → length s < n + at → length s < m + at → faces_from n s at ≡ faces_from m s at
  unfolding faces_from
  faces_many zero m at h a b = absurd (omega arith)
  faces_many (suc n) zero at h a b = absurd (omega arith)
  faces_many (suc n) (suc m) at h a b = by (face_from s at) refl (λ j. faces_many n m j)
    where
      by : (r : Result ℕ Flaw) → face_from s at ≡ r →
          ((j : ℕ) → j ≤ length s → length s < n + j → length s < m + j → faces_from n s j ≡ faces_from m s j) →
          go_on r (faces_from n s) ≡ go_on r (faces_from m s)
      by (Ok j) p rest =
          let f = face_reach at h p in
          rest j f.within (omega (arith, f.from)) (omega (arith, f.from))
      by (Err f) p rest = refl
