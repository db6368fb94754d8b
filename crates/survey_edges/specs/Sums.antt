-- Sums of numbers, and a word's ones as one. Assumes nothing.
use Rattle.std.specs.Prelude.{◌≡◌, refl, Bool, true, false, ℕ, zero, suc, ◌+◌, ◌^◌, ◌≤◌}
use Rattle.std.proofs.Common.{ap, ap₂, ◌∙◌, arith, mul_comm}
use Rattle.std.specs.Int.Count.{ones}
use Rattle.laws.specs.Mask.{digit, mask_of, mask_lt, ones_join}

-- g 0 + g 1 + .. , n of them
unfoldable pub sum_of : (ℕ → ℕ) → ℕ → ℕ
sum_of g zero = 0
sum_of g (suc n) = sum_of g n + g n

pub sum_le : (g h : ℕ → ℕ) (n : ℕ) → ((i : ℕ) → g i ≤ h i) → sum_of g n ≤ sum_of h n
unfolding sum_of
sum_le g h zero e = omega arith
sum_le g h (suc n) e = omega (arith, sum_le g h n e, e n)

pub sum_add : (g h : ℕ → ℕ) (n : ℕ) → sum_of (λ i. g i + h i) n ≡ sum_of g n + sum_of h n
unfolding sum_of
sum_add g h zero = refl
sum_add g h (suc n) = omega (arith, sum_add g h n)

pub digit_le : (a b : Bool) → (a ≡ true → b ≡ true) → digit a ≤ digit b
digit_le true b h = rw (h refl) (omega arith)
digit_le false b h = omega arith

digit_ones : (b : Bool) → ones (digit b) ≡ digit b
unfolding ones
digit_ones true = refl
digit_ones false = refl

pub ones_sum : (g : ℕ → Bool) (n : ℕ) → ones (mask_of g n) ≡ sum_of (λ m. digit (g m)) n
unfolding mask_of sum_of ones
ones_sum g zero = refl
ones_sum g (suc n) =
    ap (λ (x : ℕ). ones (mask_of g n + x)) (mul_comm (digit (g n)) (2 ^ n)) ∙ ones_join n (mask_of g n) (digit (g n)) (mask_lt g n)
    ∙ ap₂ ◌+◌ (ones_sum g n) (digit_ones (g n))
