-- What the signs of four points obey, whatever gives them: alternation, and the rule of three terms. Assumes nothing.
use Rattle.std.specs.Prelude.{◌≡◌, ◌≢◌, Bool, not, ◌||◌, ℕ, ◌≤◌, T}
use Rattle.std.proofs.Common.{sym}
use Rattle.laws.specs.Bools.{◌⊕◌}

-- the numbers of the points of a scene of n points
abbrev pub Upto : ℕ → ℕ → Type 0
Upto n i = (1 ≤ i) × (i ≤ n)

-- four points, six points: they are points (In), and no two are the same
pub record Four (In : ℕ → Type 0) (a b c d : ℕ) : Type 0 where
  pub a_in : In a
  pub b_in : In b
  pub c_in : In c
  pub d_in : In d
  pub ab : a ≢ b
  pub ac : a ≢ c
  pub ad : a ≢ d
  pub bc : b ≢ c
  pub bd : b ≢ d
  pub cd : c ≢ d

pub record Six (In : ℕ → Type 0) (a b c p q r : ℕ) : Type 0 where
  pub a_in : In a
  pub b_in : In b
  pub c_in : In c
  pub p_in : In p
  pub q_in : In q
  pub r_in : In r
  pub ab : a ≢ b
  pub ac : a ≢ c
  pub ap : a ≢ p
  pub aq : a ≢ q
  pub ar : a ≢ r
  pub bc : b ≢ c
  pub bp : b ≢ p
  pub bq : b ≢ q
  pub br : b ≢ r
  pub cp : c ≢ p
  pub cq : c ≢ q
  pub cr : c ≢ r
  pub pq : p ≢ q
  pub pr : p ≢ r
  pub qr : q ≢ r

pub ne_sym : {a b : ℕ} → a ≢ b → b ≢ a
ne_sym h e = h (sym e)

-- the three are not all alike
abbrev pub mixed : Bool → Bool → Bool → Bool
mixed a b c = (a ⊕ b) || (b ⊕ c)

-- The signs of four points, true for positive: two neighbours exchanged turn the sign, and the three terms of six points,
-- which sum to zero, are not all of one sign.
pub record Rules (In : ℕ → Type 0) (s : ℕ → ℕ → ℕ → ℕ → Bool) : Type 0 where
  pub swap1 : (a b c d : ℕ) → Four In a b c d → s b a c d ≡ not (s a b c d)
  pub swap2 : (a b c d : ℕ) → Four In a b c d → s a c b d ≡ not (s a b c d)
  pub swap3 : (a b c d : ℕ) → Four In a b c d → s a b d c ≡ not (s a b c d)
  pub three : (u v h p q r : ℕ) → Six In u v h p q r → T (mixed (s u v h p ⊕ s u v q r) (s u v h q ⊕ s u v r p) (s u v h r ⊕ s u v p q))

-- signs that agree with these, where the points differ
pub rules_same : (In : ℕ → Type 0) (s t : ℕ → ℕ → ℕ → ℕ → Bool) → ((a b c d : ℕ) → Four In a b c d → t a b c d ≡ s a b c d) →
    Rules In s → Rules In t
rules_same In s t e r =
    record {
      swap1 = λ a b c d f. rw (e b a c d (search ne_sym), e a b c d f) (r.swap1 a b c d f);
      swap2 = λ a b c d f. rw (e a c b d (search ne_sym), e a b c d f) (r.swap2 a b c d f);
      swap3 = λ a b c d f. rw (e a b d c (search ne_sym), e a b c d f) (r.swap3 a b c d f);
      three = λ u v h p q r' f.
          rw (
            e u v h p (search),
            e u v q r' (search),
            e u v h q (search),
            e u v r' p (search ne_sym),
            e u v h r' (search),
            e u v p q (search),
          )
          (r.three u v h p q r' f);
    }
