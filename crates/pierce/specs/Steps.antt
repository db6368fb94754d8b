-- Formula (13) step by step, as the code computes it: the ends first, then the three sides. Assumes nothing.
use Rattle.std.specs.Prelude.{◌≡◌, Bool, true, false, not, ℕ}
use Rattle.std.proofs.Common.{sym, ap₂, ◌∙◌}
use Rattle.std.proofs.Math.Path.{ap}
use Rattle.std.specs.Bool.{beq}
use Rattle.laws.specs.Bools.{◌⊕◌, differ, alike, unlike}
use Rattle.pierce.specs.Formula.{counts, sides_count, formula}

-- a side, by H(s), H(t) and, where they differ, B(s,t)
module _ (hs ht b : Bool) where
  pub side_none : beq hs ht ≡ true → false ≡ counts hs ht b
  unfolding counts
  side_none e = rw (alike hs ht e)

  pub side_some : {o : Bool} → beq hs ht ≡ false → o ≡ b → not (beq hs o) ≡ counts hs ht b
  unfolding counts
  side_some {o} e q = rw (unlike hs ht e, q) (differ hs b)

module _ (sign : ℕ → ℕ → ℕ → ℕ → Bool) (u v h p q r : ℕ) where
  pub sides_sum : {hp hq hr pq qr rp : Bool} → hp ≡ sign u v h p → hq ≡ sign u v h q → hr ≡ sign u v h r →
      pq ≡ counts hp hq (sign u v p q) → qr ≡ counts hq hr (sign u v q r) → rp ≡ counts hr hp (sign u v r p) →
      not (beq (not (beq pq qr)) rp) ≡ sides_count sign u v h p q r
  unfolding sides_count
  sides_sum {pq = pq} {qr} {rp} hp hq hr x y z =
      differ (not (beq pq qr)) rp ∙ ap (λ (b : Bool). b ⊕ rp) (differ pq qr) ∙ cc

  module _ {au av : Bool} (eu : au ≡ sign p q r u) (ev : av ≡ sign p q r v) where
    ends : sign p q r u ⊕ sign p q r v ≡ au ⊕ av
    ends = ap₂ ◌⊕◌ (sym eu) (sym ev)

    pub ends_alike : beq au av ≡ true → false ≡ formula sign u v h p q r
    unfolding formula
    ends_alike e = rw (ends, alike au av e)

    pub ends_differ : {o : Bool} → beq au av ≡ false → o ≡ sides_count sign u v h p q r → o ≡ formula sign u v h p q r
    unfolding formula
    ends_differ e q = rw (ends, unlike au av e) q
