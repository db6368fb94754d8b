-- Runs one after another: of numbers that pass, by the set bits of a word, and of a run's parts. Assumes nothing.
use Rattle.std.specs.Prelude.{◌≡◌, Bool}
use Rattle.std.proofs.Math.Path.{refl, sym, ap, ap₂}
use Rattle.std.proofs.Common.{◌∙◌, le_refl}
use Rattle.std.proofs.Math.Bool.{true, false}
use mathlib.Core.List.{List, [], ◌∷◌, ◌++◌, append-nil, append_assoc}
use Prim.Native.Nat.{ℕ, zero, suc, ◌+◌, ◌^◌, ◌<◌}
use native.Mathlib.Omega.{arith}
use Rattle.std.proofs.Math.ListN.{length, length-append}
use Rattle.laws.specs.Mask.{digit, test_bit}
use Rattle.laws.specs.Walk.{places, passing, placed, mask_places}
use Rattle.laws.specs.Runs.{up_to, only, up_to_first, up_to_same}
use Rattle.survey_edges.specs.Bits.{word_bits}
use Rattle.survey_edges.specs.Table.{each}
use Rattle.survey_edges.specs.Sums.{sum_of}

module _ {A : Type 0} where
  pub up_to_none : (g : ℕ → List A) (n : ℕ) → ((i : ℕ) → i < n → g i ≡ []) → up_to g n ≡ []
  unfolding up_to
  up_to_none g zero h = refl
  up_to_none g (suc n) h = rw (up_to_none g n (λ i b. h i (omega arith)), h n (omega arith))

  pub up_to_length : (g : ℕ → List A) (n : ℕ) → length (up_to g n) ≡ sum_of (λ i. length (g i)) n
  unfolding up_to sum_of
  up_to_length g zero = refl
  up_to_length g (suc n) = length-append (up_to g n) (g n) ∙ ap (λ (x : ℕ). x + length (g n)) (up_to_length g n)

  pub only_length : (b : Bool) (x : A) → length (only b (x ∷ [])) ≡ digit b
  only_length true x = refl
  only_length false x = refl

module _ {A B : Type 0} (g : A → List B) where
  pub each_append : (l m : List A) → each g (l ++ m) ≡ each g l ++ each g m
  unfolding each
  each_append [] m = refl
  each_append (x ∷ l) m = ap (λ (r : List B). g x ++ r) (each_append l m) ∙ sym (append_assoc (g x) (each g l) (each g m))

  pub each_one : (x : A) → each g (x ∷ []) ≡ g x
  unfolding each
  each_one x = append-nil (g x)

  pub each_up_to : (h : ℕ → List A) (n : ℕ) → each g (up_to h n) ≡ up_to (λ i. each g (h i)) n
  unfolding up_to each
  each_up_to h zero = refl
  each_up_to h (suc n) = each_append (up_to h n) (h n) ∙ ap (λ (l : List B). l ++ each g (h n)) (each_up_to h n)

  pub each_only : (b : Bool) (l : List A) → each g (only b l) ≡ only b (each g l)
  unfolding each
  each_only true l = refl
  each_only false l = refl

module _ {A : Type 0} (p : ℕ → Bool) (g : ℕ → List A) where
  passing_from : (k n : ℕ) → up_to (λ j. only (p (k + j)) (g (k + j))) n ≡ each g (passing p k n)
  unfolding up_to each passing
  passing_from k zero = refl
  passing_from k (suc n) =
      up_to_first (λ j. only (p (k + j)) (g (k + j))) n
      ∙ ap₂ ◌++◌ (ap (λ (i : ℕ). only (p i) (g i)) (start k))
      (up_to_same _ _ n (λ j b. ap (λ (i : ℕ). only (p i) (g i)) (next k j)) ∙ passing_from (suc k) n)
      ∙ head (p k)
    where
      start : (k : ℕ) → k + 0 ≡ k
      start k = omega arith

      next : (k i : ℕ) → k + suc i ≡ suc k + i
      next k i = omega arith

      head : (b : Bool) → only b (g k) ++ each g (passing p (suc k) n) ≡ each g (placed (digit b) k (passing p (suc k) n))
      head true = refl
      head false = refl

  -- the numbers below n that pass
  pub each_passing : (n : ℕ) → up_to (λ j. only (p j) (g j)) n ≡ each g (passing p 0 n)
  each_passing n = up_to_same _ _ n (λ j b. ap (λ (i : ℕ). only (p i) (g i)) (plain j)) ∙ passing_from 0 n
    where
      plain : (j : ℕ) → j ≡ 0 + j
      plain j = omega arith

-- by the set bits of a word
pub each_place : {A : Type 0} (g : ℕ → List A) (d : ℕ) {w : ℕ} → w < 2 ^ d → up_to (λ j. only (test_bit w j) (g j)) d ≡ each g (places d 0 w)
each_place g d {w} h =
    each_passing (test_bit w) g d ∙ ap (each g) (sym (mask_places (test_bit w) d d (le_refl d)) ∙ ap (places d 0) (word_bits d h))
