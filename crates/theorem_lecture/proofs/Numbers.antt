-- The numbers of points, faces or solids with A and B exchanged: no two are given the same, and they are the same numbers. Assumes nothing.
use Rattle.std.specs.Prelude.{◌≡◌, refl, ◌≢◌, ◌↔◌, ℕ, ◌+◌, ◌-◌, ◌≤◌, ◌<◌}
use Rattle.std.proofs.Common.{sym, subst, ◌∙◌, arith}
use Rattle.std.proofs.Math.Decide.{dec_lt}
use borrow.Author.Tests.{le-leb, lt-leb, ne_eqb}
use Rattle.laws.specs.Decides.{same_test}
use Rattle.scene.specs.Limits.{within}
use Rattle.judge.specs.Tests.{within_iff}
use Rattle.orient.specs.Signs.{Upto}
use Rattle.theorem_lecture.specs.Exchange.{exchanged}

module _ (a b i : ℕ) where
  pub of_a : 1 ≤ i → i ≤ a → exchanged a b i ≡ b + i
  unfolding exchanged
  of_a l h = rw (ne_eqb i 0 (omega arith), le-leb i a h)

  pub of_b : a < i → i ≤ a + b → exchanged a b i ≡ i - a
  unfolding exchanged
  of_b h k = rw (ne_eqb i 0 (omega arith), lt-leb i a h, le-leb i (a + b) k)

  pub of_far : a + b < i → exchanged a b i ≡ i
  unfolding exchanged
  of_far h = rw (ne_eqb i 0 (omega arith), lt-leb i a (omega arith), lt-leb i (a + b) h)

pub of_zero : (a b : ℕ) → exchanged a b 0 ≡ 0
unfolding exchanged
of_zero a b = refl

-- what is so of each kind of number is so of all
pub each_kind : (a b i : ℕ) (X : ℕ → ℕ → Type 0) → (i ≡ 0 → X 0 0) → (1 ≤ i → i ≤ a → X i (b + i)) → (a < i → i ≤ a + b → X i (i - a)) →
    (a + b < i → X i i) → X i (exchanged a b i)
each_kind a b i X zero own other far = by (dec_lt 0 i) (dec_lt a i) (dec_lt (a + b) i)
  where
    by : Dec (0 < i) → Dec (a < i) → Dec (a + b < i) → X i (exchanged a b i)
    by (no x) y z = let e : 0 ≡ i = omega arith in subst (λ (k : ℕ). X k (exchanged a b k)) e (rw (of_zero a b) (zero (sym e)))
    by (yes x) (no y) z = rw (of_a a b i x (omega arith)) (own x (omega arith))
    by (yes x) (yes y) (no z) = rw (of_b a b i y (omega arith)) (other y (omega arith))
    by (yes x) (yes y) (yes z) = rw (of_far a b i z) (far z)

-- tests of two numbers between limits agree
pub within_same : (l h i l' h' j : ℕ) → ((l ≤ i) × (i ≤ h)) ↔ ((l' ≤ j) × (j ≤ h')) → within l h i ≡ within l' h' j
within_same l h i l' h' j e =
    same_test (within l h i) (within l' h' j) (
      λ p. (within_iff l' h' j).1 (e.0 ((within_iff l h i).0 p)),
      λ p. (within_iff l h i).1 (e.1 ((within_iff l' h' j).0 p)),
    )

-- a number from 1 on, up to n, is given one, and no other is
pub within_all : (a b n i : ℕ) → a + b ≤ n → within 1 n (exchanged a b i) ≡ within 1 n i
within_all a b n i l =
    each_kind a b i (λ i j. within 1 n j ≡ within 1 n i) (λ e. refl)
    (λ x y. within_same 1 n (b + i) 1 n i (λ p. omega arith, λ p. omega arith))
    (λ x y. within_same 1 n (i - a) 1 n i (λ p. omega arith, λ p. omega arith)) (λ x. refl)

-- A's numbers are given those behind b, B's those from 1 on
pub within_a : (a b i : ℕ) → within (b + 1) (b + a) (exchanged a b i) ≡ within (0 + 1) (0 + a) i
within_a a b i =
    each_kind a b i (λ i j. within (b + 1) (b + a) j ≡ within (0 + 1) (0 + a) i)
    (λ e. within_same (b + 1) (b + a) 0 (0 + 1) (0 + a) 0 (λ p. omega arith, λ p. omega arith))
    (λ x y. within_same (b + 1) (b + a) (b + i) (0 + 1) (0 + a) i (λ p. omega arith, λ p. omega arith))
    (λ x y. within_same (b + 1) (b + a) (i - a) (0 + 1) (0 + a) i (λ p. omega arith, λ p. omega arith))
    (λ x. within_same (b + 1) (b + a) i (0 + 1) (0 + a) i (λ p. omega arith, λ p. omega arith))

pub within_b : (a b i : ℕ) → within (0 + 1) (0 + b) (exchanged a b i) ≡ within (a + 1) (a + b) i
within_b a b i =
    each_kind a b i (λ i j. within (0 + 1) (0 + b) j ≡ within (a + 1) (a + b) i)
    (λ e. within_same (0 + 1) (0 + b) 0 (a + 1) (a + b) 0 (λ p. omega arith, λ p. omega arith))
    (λ x y. within_same (0 + 1) (0 + b) (b + i) (a + 1) (a + b) i (λ p. omega arith, λ p. omega arith))
    (λ x y. within_same (0 + 1) (0 + b) (i - a) (a + 1) (a + b) i (λ p. omega arith, λ p. omega arith))
    (λ x. within_same (0 + 1) (0 + b) i (a + 1) (a + b) i (λ p. omega arith, λ p. omega arith))

pub into : (a b i : ℕ) → Upto (a + b + 1) i → Upto (a + b + 1) (exchanged a b i)
into a b i h =
    (within_iff 1 (a + b + 1) (exchanged a b i)).0
    (within_all a b (a + b + 1) i (omega arith) ∙ (within_iff 1 (a + b + 1) i).1 (omega arith))

pub apart : (a b i j : ℕ) → Upto (a + b + 1) i → Upto (a + b + 1) j → i ≢ j → exchanged a b i ≢ exchanged a b j
apart a b i j h k d e = by (dec_lt a i) (dec_lt (a + b) i) (dec_lt a j) (dec_lt (a + b) j)
  where
    by : Dec (a < i) → Dec (a + b < i) → Dec (a < j) → Dec (a + b < j) → ⊥
    by (no x) y (no z) w = omega (arith, of_a a b i (omega arith) (omega arith), of_a a b j (omega arith) (omega arith))
    by (no x) y (yes z) (no w) = omega (arith, of_a a b i (omega arith) (omega arith), of_b a b j z (omega arith))
    by (no x) y (yes z) (yes w) = omega (arith, of_a a b i (omega arith) (omega arith), of_far a b j w)
    by (yes x) (no y) (no z) w = omega (arith, of_b a b i x (omega arith), of_a a b j (omega arith) (omega arith))
    by (yes x) (no y) (yes z) (no w) = omega (arith, of_b a b i x (omega arith), of_b a b j z (omega arith))
    by (yes x) (no y) (yes z) (yes w) = omega (arith, of_b a b i x (omega arith), of_far a b j w)
    by (yes x) (yes y) (no z) w = omega (arith, of_far a b i y, of_a a b j (omega arith) (omega arith))
    by (yes x) (yes y) (yes z) (no w) = omega (arith, of_far a b i y, of_b a b j z (omega arith))
    by (yes x) (yes y) (yes z) (yes w) = omega (arith, of_far a b i y, of_far a b j w)
