-- Sums over the pairs of numbers below n; where each entry of a list has b pairs at most, all have b times its length at most. Assumes
-- nothing.
use Rattle.std.specs.Prelude.{◌≡◌, refl, Bool, true, false, ◌&&◌, List, [], ◌∷◌, ℕ, zero, suc, ◌+◌, ◌*◌, ◌≤◌, ◌<◌, eqb, ltb, length}
use Rattle.std.proofs.Common.{ap, ◌∙◌, arith, eq-eqb, ne_eqb, lt-ltb, le-ltb}
use Rattle.std.proofs.Math.Decide.{ℕ_discrete, dec_lt}
use Rattle.laws.specs.Even.{count}
use Rattle.laws.specs.Mask.{digit}
use Rattle.laws.specs.Range.{more}
use Rattle.survey_edges.specs.Sums.{sum_of, sum_le, sum_add}

-- w i j, of all i and j below n
abbrev pub pair_sum : (ℕ → ℕ → ℕ) → ℕ → ℕ
pair_sum w n = sum_of (λ i. sum_of (w i) n) n

nothing : (n : ℕ) → sum_of (λ i. 0) n ≡ 0
unfolding sum_of
nothing zero = refl
nothing (suc n) = omega (arith, nothing n)

pub pairs_add : (v w : ℕ → ℕ → ℕ) (n : ℕ) → pair_sum (λ i j. v i j + w i j) n ≡ pair_sum v n + pair_sum w n
pairs_add v w n =
    ap (λ (g : ℕ → ℕ). sum_of g n) (λ t i. sum_add (v i) (w i) n t) ∙ sum_add (λ i. sum_of (v i) n) (λ i. sum_of (w i) n) n

pub pairs_le : (v w : ℕ → ℕ → ℕ) (n : ℕ) → ((i j : ℕ) → v i j ≤ w i j) → pair_sum v n ≤ pair_sum w n
pairs_le v w n h = sum_le (λ i. sum_of (v i) n) (λ i. sum_of (w i) n) n (λ i. sum_le (v i) (w i) n (h i))

-- ---- one pair stands among them once at most

-- a number is met before n, once, or not yet
one_number : (low x n : ℕ) → sum_of (λ i. digit (eqb (low + i) x)) n ≤ digit (ltb x (low + n))
unfolding sum_of
one_number low x zero = omega arith
one_number low x (suc n) = go (dec_lt x (low + n)) (ℕ_discrete (low + n) x) (one_number low x n)
  where
    met : x < low + suc n → ltb x (low + suc n) ≡ true
    met = lt-ltb x (low + suc n)

    go : Dec (x < low + n) → Dec (low + n ≡ x) → sum_of (λ i. digit (eqb (low + i) x)) n ≤ digit (ltb x (low + n)) →
        sum_of (λ i. digit (eqb (low + i) x)) n + digit (eqb (low + n) x) ≤ digit (ltb x (low + suc n))
    go (yes a) _ h = rw (ne_eqb (low + n) x (omega arith), met (omega arith)) (omega (arith, rw (lt-ltb x (low + n) a) at h))
    go (no a) (yes b) h = rw (eq-eqb (low + n) x b, met (omega arith)) (omega (arith, rw (le-ltb x (low + n) (omega arith)) at h))
    go (no a) (no b) h = rw (ne_eqb (low + n) x b) (omega (arith, rw (le-ltb x (low + n) (omega arith)) at h))

digit_most : (b : Bool) → digit b ≤ 1
digit_most true = omega arith
digit_most false = omega arith

-- where b holds
one_if : (b : Bool) (low x n : ℕ) → sum_of (λ i. digit (b && eqb (low + i) x)) n ≤ digit b
one_if true low x n = omega (arith, one_number low x n, digit_most (ltb x (low + n)))
one_if false low x n = omega (arith, nothing n)

pub pair_once : (b : Bool) (low x y n : ℕ) → pair_sum (λ i j. digit ((b && eqb (low + i) x) && eqb (low + j) y)) n ≤ digit b
pair_once b low x y n =
    omega (
      arith,
      sum_le (λ i. sum_of (λ j. digit ((b && eqb (low + i) x) && eqb (low + j) y)) n) (λ i. digit (b && eqb (low + i) x)) n
          (λ i. one_if (b && eqb (low + i) x) low y n),
      one_if b low x n,
    )

-- ---- counted over a list

more_is : (b : Bool) (m : ℕ) → more b m ≤ digit b + m
more_is true m = omega arith
more_is false m = omega arith

module _ {A : Type 0} (p : ℕ → ℕ → A → Bool) (n b : ℕ) (most : (x : A) → pair_sum (λ i j. digit (p i j x)) n ≤ b) where
  pub list_most : (xs : List A) → pair_sum (λ i j. count (p i j) xs) n ≤ length xs * b
  list_most [] = omega (arith, ap (λ (g : ℕ → ℕ). sum_of g n) (λ t i. nothing n t), nothing n)
  list_most (x ∷ xs) =
      omega (
        arith,
        pairs_le (λ i j. more (p i j x) (count (p i j) xs)) (λ i j. digit (p i j x) + count (p i j) xs) n
            (λ i j. more_is (p i j x) (count (p i j) xs)),
        pairs_add (λ i j. digit (p i j x)) (λ i j. count (p i j) xs) n,
        most x,
        list_most xs,
      )
