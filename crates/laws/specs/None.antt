-- No number of a range passes a test. Assumes nothing.
use Rattle.std.specs.Prelude.{◌≡◌, refl, ◌↔◌, Bool, true, false, ◌||◌, ℕ, zero, suc, ◌+◌, ◌-◌, ◌≤◌, ◌<◌}
use Rattle.std.proofs.Common.{sym, subst, true≢false, arith}
use Rattle.std.proofs.Math.Decide.{ℕ_discrete}
use Rattle.laws.specs.Range.{any_of, over, fold}

or_left : (a b : Bool) → (a || b) ≡ false → a ≡ false
or_left true b e = e
or_left false b e = refl

or_right : (a b : Bool) → (a || b) ≡ false → b ≡ false
or_right true b e = absurd (true≢false e)
or_right false b e = e

or_both : (a b : Bool) → a ≡ false → b ≡ false → (a || b) ≡ false
or_both true b p q = p
or_both false b p q = q

module _ (p : ℕ → Bool) where
  abbrev any : ℕ → ℕ → Bool
  any = fold (λ k rest. p k || rest) false

  each_fails : (a n : ℕ) → any a n ≡ false → (k : ℕ) → a ≤ k → k < a + n → p k ≡ false
  each_fails a zero e k l m = absurd (omega arith)
  each_fails a (suc n) e k l m = by (ℕ_discrete k a) (λ b. each_fails (suc a) n (or_right (p a) (any (suc a) n) e) k b (omega arith))
    where
      by : Dec (k ≡ a) → (suc a ≤ k → p k ≡ false) → p k ≡ false
      by (yes q) rest = subst (λ (i : ℕ). p i ≡ false) (sym q) (or_left (p a) (any (suc a) n) e)
      by (no q) rest = rest (omega arith)

  all_fail : (a n : ℕ) → ((k : ℕ) → a ≤ k → k < a + n → p k ≡ false) → any a n ≡ false
  all_fail a zero h = refl
  all_fail a (suc n) h =
      or_both (p a) (any (suc a) n) (h a (omega arith) (omega arith)) (all_fail (suc a) n (λ k l m. h k (omega arith) (omega arith)))

  pub none_iff : (a e : ℕ) → (any_of p a e ≡ false) ↔ ((k : ℕ) → a ≤ k → k < e → p k ≡ false)
  unfolding any_of over
  none_iff a e = (λ h k l m. each_fails a (e - a) h k l (omega arith), λ h. all_fail a (e - a) (λ k l m. h k l (omega arith)))
