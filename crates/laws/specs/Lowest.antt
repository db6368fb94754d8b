-- The lowest number of a range that passes a test is its first, or the number behind the last where none passes. Assumes nothing.
use Rattle.std.specs.Prelude.{◌≡◌, refl, ◌⊎◌, Bool, true, false, cond, ℕ, zero, suc, ◌+◌, ◌-◌, ◌≤◌, ◌<◌}
use Rattle.std.proofs.Common.{subst, inl, inr, arith}
use Rattle.std.proofs.Math.Decide.{ℕ_discrete}
use Rattle.laws.specs.Range.{fold, over, lowest_of}
use Rattle.laws.specs.Walk.{First}

-- of n numbers from a on
abbrev pub FirstOrNone : (ℕ → Bool) → (a n l : ℕ) → Type 0
FirstOrNone p a n l = First p a n l ⊎ ((l ≡ a + n) × ((j : ℕ) → a ≤ j → j < a + n → p j ≡ false))

lowest_of_law : (p : ℕ → Bool) (n a z : ℕ) → z ≡ a + n → FirstOrNone p a n (fold (λ k rest. cond (p k) k rest) z a n)
lowest_of_law p zero a z e = inr (e, λ j x y. absurd (omega arith))
lowest_of_law p (suc n) a z e = by (p a) refl (lowest_of_law p n (suc a) z (omega arith))
  where
    next : {X : ℕ → Type 0} (b : ℕ) → X a → ((j : ℕ) → suc a ≤ j → j < b → X j) → (j : ℕ) → a ≤ j → j < b → X j
    next {X} b x h j l m = at (ℕ_discrete a j)
      where
        at : Dec (a ≡ j) → X j
        at (yes d) = subst X d x
        at (no d) = h j (omega arith) m

    by : (b : Bool) → p a ≡ b → {l : ℕ} → FirstOrNone p (suc a) n l → FirstOrNone p a (suc n) (cond b a l)
    by true t h = inl (record { passes = t; from = omega arith; below = omega arith; none = λ j x y. absurd (omega arith) })
    by false t (inl f) =
        inl (record { passes = f.passes; from = omega (arith, f.from); below = omega (arith, f.below); none = next _ t f.none })
    by false t (inr h) = inr (omega (arith, h.0), λ j x y. next (suc a + n) t h.1 j x (omega arith))

pub lowest_or_none : (p : ℕ → Bool) (a n : ℕ) → FirstOrNone p a n (lowest_of p a (a + n))
unfolding lowest_of over
lowest_or_none p a n = let e : a + n - a ≡ n = omega arith in rw e (lowest_of_law p n a (a + n) refl)
