-- From whole numbers to signs: determinants that alternate, and whose three terms sum to zero, have signs that obey the rules.
-- Assumes nothing.
use Rattle.std.specs.Prelude.{◌≡◌, refl, ◌≢◌, Bool, not, ℕ, zero, suc, ◌+◌, ◌*◌, T, ℤ, pos, negsuc, neg_ℤ, nat_abs, ◌+ℤ◌, ◌*ℤ◌}
use Rattle.std.proofs.Common.{sym, ap, ◌∙◌, subst, arith}
use Rattle.std.proofs.Math.IntN.{pos-ne-negsuc}
use Rattle.laws.specs.Bools.{◌⊕◌, all, ◌≐◌, law}
use Rattle.laws.specs.Sign.{sign}
use Rattle.orient.specs.Signs.{Four, ne_sym, mixed, Rules}
use Rattle.orient.specs.Terms.{is_plus}

abbrev plus : ℤ → Bool
plus z = is_plus (sign z)

times : (a b : ℕ) → suc a * suc b ≡ suc (a * suc b + b)
times a b = omega arith

pub plus_neg : (z : ℤ) → z ≢ pos 0 → plus (neg_ℤ z) ≡ not (plus z)
plus_neg (pos zero) h = absurd (h refl)
plus_neg (pos (suc n)) h = refl
plus_neg (negsuc n) h = refl

-- a product of two numbers that are not zero: its sign, and that it is not zero
pub plus_mul : (x y : ℤ) → x ≢ pos 0 → y ≢ pos 0 → plus (x *ℤ y) ≡ not (plus x ⊕ plus y)
plus_mul (pos zero) y h k = absurd (h refl)
plus_mul (pos (suc a)) (pos zero) h k = absurd (k refl)
plus_mul (pos (suc a)) (pos (suc b)) h k = rw (times a b)
plus_mul (pos (suc a)) (negsuc b) h k = rw (times a b)
plus_mul (negsuc a) (pos zero) h k = absurd (k refl)
plus_mul (negsuc a) (pos (suc b)) h k = rw (times a b)
plus_mul (negsuc a) (negsuc b) h k = rw (times a b)

some : (n : ℕ) → pos (suc n) ≢ pos 0
some n e = omega (arith, ap nat_abs e)

less : (n : ℕ) → negsuc n ≢ pos 0
less n e = pos-ne-negsuc 0 n (sym e)

pub nonzero_mul : (x y : ℤ) → x ≢ pos 0 → y ≢ pos 0 → x *ℤ y ≢ pos 0
nonzero_mul (pos zero) y h k = absurd (h refl)
nonzero_mul (pos (suc a)) (pos zero) h k = absurd (k refl)
nonzero_mul (pos (suc a)) (pos (suc b)) h k = rw (times a b) (some (a * suc b + b))
nonzero_mul (pos (suc a)) (negsuc b) h k = rw (times a b) (less (a * suc b + b))
nonzero_mul (negsuc a) (pos zero) h k = absurd (k refl)
nonzero_mul (negsuc a) (pos (suc b)) h k = rw (times a b) (less (a * suc b + b))
nonzero_mul (negsuc a) (negsuc b) h k = rw (times a b) (some (a * suc b + b))

-- three numbers that are not zero and sum to zero
sum_mixed : (x y z : ℤ) → x ≢ pos 0 → y ≢ pos 0 → z ≢ pos 0 → x +ℤ y +ℤ z ≡ pos 0 → T (mixed (plus x) (plus y) (plus z))
sum_mixed (pos zero) y z h k l e = absurd (h refl)
sum_mixed (pos (suc a)) (pos zero) z h k l e = absurd (k refl)
sum_mixed (pos (suc a)) (pos (suc b)) (pos zero) h k l e = absurd (l refl)
sum_mixed (pos (suc a)) (pos (suc b)) (pos (suc c)) h k l e = absurd (omega (arith, ap nat_abs e))
sum_mixed (pos (suc a)) (pos (suc b)) (negsuc c) h k l e = tt
sum_mixed (pos (suc a)) (negsuc b) z h k l e = tt
sum_mixed (negsuc a) (pos zero) z h k l e = absurd (k refl)
sum_mixed (negsuc a) (pos (suc b)) z h k l e = tt
sum_mixed (negsuc a) (negsuc b) (pos zero) h k l e = absurd (l refl)
sum_mixed (negsuc a) (negsuc b) (pos (suc c)) h k l e = tt
sum_mixed (negsuc a) (negsuc b) (negsuc c) h k l e = absurd (less (suc (suc (a + b) + c)) e)

-- what the determinants have to obey; that they are not zero, only where the four points differ
pub record Determinants (In : ℕ → Type 0) (D : ℕ → ℕ → ℕ → ℕ → ℤ) : Type 0 where
  pub nonzero : (a b c d : ℕ) → Four In a b c d → D a b c d ≢ pos 0
  pub swap1 : (a b c d : ℕ) → D b a c d ≡ neg_ℤ (D a b c d)
  pub swap2 : (a b c d : ℕ) → D a c b d ≡ neg_ℤ (D a b c d)
  pub swap3 : (a b c d : ℕ) → D a b d c ≡ neg_ℤ (D a b c d)
  pub three : (u v h p q r : ℕ) → D u v h p *ℤ D u v q r +ℤ D u v h q *ℤ D u v r p +ℤ D u v h r *ℤ D u v p q ≡ pos 0

terms_mixed : (x x' y y' z z' : ℤ) → x ≢ pos 0 → x' ≢ pos 0 → y ≢ pos 0 → y' ≢ pos 0 → z ≢ pos 0 → z' ≢ pos 0 →
    x *ℤ x' +ℤ y *ℤ y' +ℤ z *ℤ z' ≡ pos 0 →
    T (mixed (plus x ⊕ plus x') (plus y ⊕ plus y') (plus z ⊕ plus z'))
terms_mixed x x' y y' z z' h h' k k' l l' e =
    subst T
    (ap₃ (plus_mul x x' h h') (plus_mul y y' k k') (plus_mul z z' l l')
    ∙ law (all λ a. all λ b. all λ c. mixed (not a) (not b) (not c) ≐ mixed a b c) tt (plus x ⊕ plus x') (plus y ⊕ plus y')
    (plus z ⊕ plus z'))
    (sum_mixed (x *ℤ x') (y *ℤ y') (z *ℤ z') (nonzero_mul x x' h h') (nonzero_mul y y' k k') (nonzero_mul z z' l l') e)
  where
    ap₃ : {a a' b b' c c' : Bool} → a ≡ a' → b ≡ b' → c ≡ c' → mixed a b c ≡ mixed a' b' c'
    ap₃ p q r = λ i. mixed (p i) (q i) (r i)

pub alternating : (In : ℕ → Type 0) (D : ℕ → ℕ → ℕ → ℕ → ℤ) → Determinants In D → Rules In (λ a b c d. is_plus (sign (D a b c d)))
alternating In D d =
    record {
      swap1 = λ a b c e f. ap plus (d.swap1 a b c e) ∙ plus_neg (D a b c e) (d.nonzero a b c e f);
      swap2 = λ a b c e f. ap plus (d.swap2 a b c e) ∙ plus_neg (D a b c e) (d.nonzero a b c e f);
      swap3 = λ a b c e f. ap plus (d.swap3 a b c e) ∙ plus_neg (D a b c e) (d.nonzero a b c e f);
      three = λ u v h p q r f.
          terms_mixed (D u v h p) (D u v q r) (D u v h q) (D u v r p) (D u v h r) (D u v p q)
          (d.nonzero u v h p (search)) (d.nonzero u v q r (search)) (d.nonzero u v h q (search))
          (d.nonzero u v r p (search ne_sym)) (d.nonzero u v h r (search)) (d.nonzero u v p q (search))
          (d.three u v h p q r);
    }
