-- Whole numbers that are known not to be zero, with what is known of their signs. Assumes nothing.
use Rattle.std.specs.Prelude.{◌≡◌, refl, ◌≢◌, Bool, true, false, not, cond, ℕ, zero, suc, ◌+◌, ◌-◌, ◌≤◌, ltb, ℤ, pos, negsuc, neg_ℤ, nat_abs, ◌-ℤ◌, ◌*ℤ◌}
use Rattle.std.proofs.Common.{sym, ap, ◌∙◌, arith, le-ltb, ltb-false}
use Rattle.std.proofs.Math.IntN.{neg_ℤ-neg_ℤ}
use Rattle.std.specs.Int.Signed.{lt_z}
use Rattle.laws.specs.Bools.{◌⊕◌}
use Rattle.laws.specs.Integers.{zero-sub→eq}
use Rattle.laws.specs.Sign.{sign}
use Rattle.orient.specs.Terms.{is_plus}
use Rattle.orient.specs.Alternating.{plus_neg, plus_mul, nonzero_mul}

-- z is not zero, and it is positive exactly when p
pub record Settled (z : ℤ) (p : Bool) : Type 0 where
  pub nonzero : z ≢ pos 0
  pub plus : is_plus (sign z) ≡ p

-- the same number, said in another way
pub same : {x z : ℤ} {p q : Bool} → x ≡ z → Settled z p → p ≡ q → Settled x q
same e s f = record { nonzero = λ o. s.nonzero (sym e ∙ o); plus = ap (λ (y : ℤ). is_plus (sign y)) e ∙ s.plus ∙ f }

-- ---- products

infixl 33 ◌⊙◌
-- both or neither
abbrev pub ◌⊙◌ : Bool → Bool → Bool
p ⊙ q = not (p ⊕ q)

infixl 7 ◌times◌
pub ◌times◌ : {x y : ℤ} {p q : Bool} → Settled x p → Settled y q → Settled (x *ℤ y) (p ⊙ q)
◌times◌ {x} {y} s t =
    record {
      nonzero = nonzero_mul x y s.nonzero t.nonzero;
      plus = plus_mul x y s.nonzero t.nonzero ∙ (λ i. s.plus i ⊙ t.plus i);
    }

pub negated : {z : ℤ} {p : Bool} → Settled z p → Settled (neg_ℤ z) (not p)
negated {z} s =
    record {
      nonzero = λ e. s.nonzero (sym (neg_ℤ-neg_ℤ z) ∙ ap neg_ℤ e);
      plus = plus_neg z s.nonzero ∙ ap not s.plus;
    }

-- ---- numbers above zero, weights, differences

pub above : (n : ℕ) → 1 ≤ n → Settled (pos n) true
above zero h = absurd (omega arith)
above (suc n) h = record { nonzero = λ e. omega (arith, ap nat_abs e); plus = refl }

pub weight : (w : ℤ) → w ≢ pos 0 → Settled w (not (lt_z w (pos 0)))
weight (pos zero) h = absurd (h refl)
weight (pos (suc n)) h = record { nonzero = h; plus = sym (ap not (le-ltb (suc n) 0 (omega arith))) }
weight (negsuc n) h = record { nonzero = h; plus = refl }

pub minus_pos : (l i : ℕ) → i ≤ l → pos l -ℤ pos i ≡ pos (l - i)
minus_pos l zero h = ap pos (omega arith)
minus_pos l (suc i) h = rw (le-ltb l (suc i) h)

less_or_more : (b : Bool) (k l : ℕ) → (b ≡ false → 1 ≤ l) → is_plus (sign (cond b (negsuc k) (pos l))) ≡ not b
less_or_more true k l h = refl
less_or_more false k l h = (above l (h refl)).plus

plus_sub : (i j : ℕ) → i ≢ j → is_plus (sign (pos j -ℤ pos i)) ≡ not (ltb j i)
plus_sub zero j h = rw (le-ltb j 0 (omega arith)) (above (j + 0) (omega arith)).plus
plus_sub (suc i) j h = less_or_more (ltb j (suc i)) _ _ (λ e. let l = ltb-false j (suc i) e in omega arith)

pub difference : (i j : ℕ) → i ≢ j → Settled (pos j -ℤ pos i) (not (ltb j i))
difference i j h = record { nonzero = λ e. h (sym (ap nat_abs (zero-sub→eq (pos j) (pos i) e))); plus = plus_sub i j h }
