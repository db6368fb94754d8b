-- The faces of a solid that pass a test, as one number and as a mask of two words: the oddness of its ones and its first face.
-- Assumes nothing.
use Rattle.std.specs.Prelude.{◌≡◌, ◌≢◌, Bool, true, false, ◌||◌, ℕ, ◌+◌, ◌*◌, ◌-◌, ◌%◌, ◌^◌, ◌<◌, eqb}
use Rattle.std.proofs.Math.Path.{sym}
use Rattle.std.proofs.Common.{ap, ap₂, ◌∙◌, arith}
use Rattle.std.proofs.Math.Bool.{not}
use Rattle.std.proofs.Math.Decide.{ℕ_discrete}
use borrow.Author.Tests.{eq-eqb, ne_eqb, eqb-true, eqb-false, not-true, not-false}
use Rattle.std.specs.Int.Count.{ones, count_trailing_zeros}
use Rattle.laws.specs.Even.{odd}
use Rattle.laws.specs.Lists.{run}
use Rattle.laws.specs.Mask.{digit_one, mask_of, mask_odd, mask_join, ones_join}
use Rattle.laws.specs.Walk.{trailing_low, trailing_high}
use Rattle.scene.specs.declared.Face.{Face}
use Rattle.pierce_masks.specs.declared.Mask.{Mask}

-- a solid of `count` faces: its k-th is the scene's face number first + k, and bit k - 1 is set exactly when that face passes
abbrev pub mask_by : (Face → Bool) → (ℕ → Face) → (first count : ℕ) → ℕ
mask_by passes face first count = mask_of (λ k. passes (face (first + 1 + k))) count

-- its ones are odd in number
unfoldable pub is_odd : ℕ → Bool
is_odd m = eqb (ones m % 2) 1

-- ---- the number of a mask, and its set digits, lowest first

unfoldable pub value_of : Mask → ℕ
value_of m = m.low + 2 ^ 64 * m.high

-- the digits that a mask has room for
abbrev pub width : ℕ
width = 2 * 64

-- some face is in the mask; k - 1 for the first face k
abbrev pub has_face : ℕ → Bool
has_face m = not (eqb m 0)

abbrev pub first_face : ℕ → ℕ
first_face m = count_trailing_zeros width m

pub some_face : (m : ℕ) {o : Bool} → o ≡ has_face m → o ≡ true → 0 < m
some_face m e t = let d : m ≢ 0 = eqb-false m 0 (not-true (eqb m 0) (sym e ∙ t)) in omega arith

pub no_face_law : (m : ℕ) {o : Bool} → o ≡ has_face m → o ≡ false → m ≡ 0
no_face_law m e t = eqb-true m 0 (not-false (eqb m 0) (sym e ∙ t))

-- ---- by its two words: faces 1 to 64 are in the first, the rest in the second

pub mask_words : (passes : Face → Bool) (face : ℕ → Face) (first count : ℕ) {low high : ℕ} → 64 < count →
    low ≡ mask_by passes face first 64 → high ≡ mask_by passes face (first + 64) (count - 64) →
    low + 2 ^ 64 * high ≡ mask_by passes face first count
mask_words passes face first count h p q =
    ap₂ (λ (x y : ℕ). x + 2 ^ 64 * y) p (q ∙ ap (λ (g : ℕ → Bool). mask_of g (count - 64)) shifted)
    ∙ sym (mask_join (λ k. passes (face (first + 1 + k))) 64 (count - 64)) ∙ ap (mask_by passes face first) (omega arith)
  where
    next : (k : ℕ) → first + 64 + 1 + k ≡ first + 1 + (64 + k)
    next k = omega arith

    shifted : ◌≡◌ {A = ℕ → Bool} (λ k. passes (face (first + 64 + 1 + k))) (λ k. passes (face (first + 1 + (64 + k))))
    shifted i k = passes (face (next k i))

module _ (m : Mask) where
  pub some_word : (not (eqb m.low 0) || not (eqb m.high 0)) ≡ has_face (value_of m)
  unfolding value_of
  some_word = by (ℕ_discrete m.low 0) (ℕ_discrete m.high 0)
    where
      by : Dec (m.low ≡ 0) → Dec (m.high ≡ 0) → (not (eqb m.low 0) || not (eqb m.high 0)) ≡ not (eqb (m.low + 2 ^ 64 * m.high) 0)
      by (yes a) (yes b) = simp (eq-eqb m.low 0 a, eq-eqb m.high 0 b, eq-eqb (m.low + 2 ^ 64 * m.high) 0 (omega arith))
      by (yes a) (no c) = simp (eq-eqb m.low 0 a, ne_eqb m.high 0 c, ne_eqb (m.low + 2 ^ 64 * m.high) 0 (omega arith))
      by (no c) d = simp (ne_eqb m.low 0 c, ne_eqb (m.low + 2 ^ 64 * m.high) 0 (omega arith))

  pub first_high : m.low ≡ 0 → 64 + count_trailing_zeros 64 m.high ≡ first_face (value_of m)
  unfolding value_of
  first_high e = sym (ap (count_trailing_zeros width) (ap (λ (x : ℕ). x + 2 ^ 64 * m.high) e ∙ omega arith) ∙ trailing_high 64 64 m.high)

  module _ (fits : m.low < 2 ^ 64) where
    pub both_ones : ones m.low + ones m.high ≡ ones (value_of m)
    unfolding value_of
    both_ones = sym (ones_join 64 m.low m.high fits)

    pub first_low : m.low ≢ 0 → count_trailing_zeros 64 m.low ≡ first_face (value_of m)
    unfolding value_of
    first_low some = sym (trailing_low 64 64 m.low m.high (omega arith) fits)

-- ---- of a list of faces

pub odd_faces : (passes : Face → Bool) (face : ℕ → Face) (first count : ℕ) →
    is_odd (mask_by passes face first count) ≡ odd passes (run face (first + 1) count)
unfolding is_odd
odd_faces passes face first count =
    ap (λ (r : ℕ). eqb r 1) (mask_odd passes face (first + 1) count) ∙ digit_one (odd passes (run face (first + 1) count))
