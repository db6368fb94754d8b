-- A word by its bits: what two words joined have, a word below 2 ^ n as the mask of its own bits, its lowest one and how many.
-- Assumes nothing.
use Rattle.std.specs.Prelude.{◌≡◌, refl, Bool, true, false, ◌&&◌, ◌||◌, ◌⊎◌, ℕ, zero, suc, ◌+◌, ◌*◌, ◌^◌, ◌/◌, ◌%◌, ◌≤◌, ◌<◌, eqb}
use Rattle.std.proofs.Common.{sym, ap, ap₂, ◌∙◌, inl, inr, pow-suc, lt_of_lt_of_le, arith, pow_mono, shr-shr}
use Rattle.std.proofs.Math.Nat.{div-eq_of_lt}
use Rattle.std.specs.Int.Bits.{bit_and, bit_or, bit_xor}
use Rattle.std.proofs.lemmas.Nat.{and_shr, or_shr, xor_shr, and_mod, or_mod, xor_mod}
use Rattle.std.specs.Int.Count.{count_trailing_zeros}
use Rattle.laws.specs.Bools.{◌⊕◌}
use Rattle.laws.specs.Mask.{digit, mask_of, mask_low, mask_same, mask_test, place_mask, test_bit}
use Rattle.laws.specs.Walk.{First, mask_first, two_cases}

-- ---- two words joined, bit by bit

module _ (f : ℕ → ℕ → ℕ) (g : Bool → Bool → Bool) (tt-is : eqb (f 1 1) 1 ≡ g true true) (tf-is : eqb (f 1 0) 1 ≡ g true false)
    (ft-is : eqb (f 0 1) 1 ≡ g false true) (ff-is : eqb (f 0 0) 1 ≡ g false false) where
  bit_by_bit : (x y : ℕ) → (x ≡ 1) ⊎ (x ≡ 0) → (y ≡ 1) ⊎ (y ≡ 0) → eqb (f x y) 1 ≡ g (eqb x 1) (eqb y 1)
  bit_by_bit x y (inl p) (inl q) = rw (p, q) tt-is
  bit_by_bit x y (inl p) (inr q) = rw (p, q) tf-is
  bit_by_bit x y (inr p) (inl q) = rw (p, q) ft-is
  bit_by_bit x y (inr p) (inr q) = rw (p, q) ff-is

module _ (a b m : ℕ) where
  abbrev x : ℕ
  x = a / 2 ^ m

  abbrev y : ℕ
  y = b / 2 ^ m

  pub test_or : test_bit (bit_or a b) m ≡ (test_bit a m || test_bit b m)
  test_or =
      ap (λ (w : ℕ). eqb (w % 2) 1) (or_shr a b m) ∙ ap (λ (w : ℕ). eqb w 1) (or_mod x y 1)
      ∙ bit_by_bit bit_or ◌||◌ refl refl refl refl (x % 2) (y % 2) (two_cases x) (two_cases y)

  pub test_and : test_bit (bit_and a b) m ≡ (test_bit a m && test_bit b m)
  test_and =
      ap (λ (w : ℕ). eqb (w % 2) 1) (and_shr a b m) ∙ ap (λ (w : ℕ). eqb w 1) (and_mod x y 1)
      ∙ bit_by_bit bit_and ◌&&◌ refl refl refl refl (x % 2) (y % 2) (two_cases x) (two_cases y)

  pub test_xor : test_bit (bit_xor a b) m ≡ test_bit a m ⊕ test_bit b m
  test_xor =
      ap (λ (w : ℕ). eqb (w % 2) 1) (xor_shr a b m) ∙ ap (λ (w : ℕ). eqb w 1) (xor_mod x y 1)
      ∙ bit_by_bit bit_xor ◌⊕◌ refl refl refl refl (x % 2) (y % 2) (two_cases x) (two_cases y)

-- ---- a word as the mask of its own bits

test_next : (w k : ℕ) → test_bit w (suc k) ≡ test_bit (w / 2) k
test_next w k = ap (λ (x : ℕ). eqb (x % 2) 1) (ap (λ (i : ℕ). w / 2 ^ i) (next k) ∙ sym (shr-shr w 1 k))
  where
    next : (k : ℕ) → suc k ≡ 1 + k
    next k = omega arith

first_digit : (w : ℕ) → digit (test_bit w 0) ≡ w % 2
first_digit w = let e : w / 2 ^ 0 ≡ w = omega arith in rw e (go (two_cases w))
  where
    go : (w % 2 ≡ 1) ⊎ (w % 2 ≡ 0) → digit (eqb (w % 2) 1) ≡ w % 2
    go (inl x) = rw x
    go (inr x) = rw x

pub word_bits : (n : ℕ) {w : ℕ} → w < 2 ^ n → mask_of (test_bit w) n ≡ w
unfolding mask_of
word_bits zero h = omega arith
word_bits (suc n) {w} h =
    mask_low n (test_bit w)
    ∙ ap₂ (λ (x y : ℕ). x + 2 * y) (first_digit w)
    (mask_same (λ k. test_bit w (suc k)) (test_bit (w / 2)) n (λ k b. test_next w k) ∙ word_bits n {w = w / 2} (omega (arith, pow-suc 2 n)))
    ∙ omega arith

-- two words below 2 ^ n are the same where their bits are
pub same_bits : (n : ℕ) {v w : ℕ} → v < 2 ^ n → w < 2 ^ n → ((m : ℕ) → m < n → test_bit v m ≡ test_bit w m) → v ≡ w
same_bits n {v} {w} a b h = sym (word_bits n a) ∙ mask_same (test_bit v) (test_bit w) n h ∙ word_bits n b

pub test_one : (i m n : ℕ) → i < n → m < n → test_bit (2 ^ i) m ≡ eqb i m
test_one i m n a b = ap (λ (w : ℕ). test_bit w m) (place_mask i n a) ∙ mask_test (λ k. eqb i k) n m b

pub test_beyond : (n m : ℕ) {w : ℕ} → w < 2 ^ n → n ≤ m → test_bit w m ≡ false
test_beyond n m {w} h l =
    let e : w / 2 ^ m ≡ 0 = div-eq_of_lt (lt_of_lt_of_le h (pow_mono l)) in
    rw e

pub test_zero : (m : ℕ) → test_bit 0 m ≡ false
test_zero m = test_beyond 0 m (omega arith) (omega arith)

-- the trailing zeros of a word that is not 0 are its lowest bit
pub word_first : (d n : ℕ) {w : ℕ} → n ≤ d → w < 2 ^ n → 0 < w → First (test_bit w) 0 n (count_trailing_zeros d w)
word_first d n {w} l h some = mask_first (test_bit w) d n l (sym (word_bits n h)) some
