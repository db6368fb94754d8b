-- The last term on one slide: count the pairs of numbers that are out of order and the negative weights; c3 is positive where the sum of
-- the two counts is odd. Two neighbours exchanged turn the answer. Assumes nothing.
use Rattle.std.specs.Prelude.{◌≡◌, Bool, true, false, not, ℕ, ◌+◌, ◌%◌, eqb, pos}
use Rattle.std.proofs.Common.{◌∙◌}
use Rattle.std.specs.Int.Signed.{lt_z}
use Rattle.laws.specs.Bools.{all, ◌≐◌, law}
use Rattle.laws.specs.Mask.{digit}
use Rattle.laws.specs.Sign.{sign}
use Rattle.orient.specs.Terms.{is_plus, c3}
use Rattle.orient.specs.Settled.{◌⊙◌}
use Rattle.orient.specs.declared.Point.{Point}

-- 1 where the earlier point has the greater number
abbrev pub swapped : Point → Point → ℕ
swapped p q = digit (lt_z q.n p.n)

-- the six pairs, in the order asked
abbrev pub out_of_order : (a b c d : Point) → ℕ
out_of_order a b c d = swapped a b + swapped a c + swapped a d + swapped b c + swapped b d + swapped c d

abbrev pub negative : Point → ℕ
negative p = digit (lt_z p.w (pos 0))

abbrev pub negative_weights : (a b c d : Point) → ℕ
negative_weights a b c d = negative a + negative b + negative c + negative d

abbrev pub last_positive : (a b c d : Point) → Bool
last_positive a b c d = eqb ((out_of_order a b c d + negative_weights a b c d) % 2) 1

-- the slide tells the sign of c3
abbrev pub Tells : (a b c d : Point) → Type 0
Tells a b c d = last_positive a b c d ≡ is_plus (sign (c3 a b c d))

-- ---- the counts as tests

abbrev pub counted : (ab ac ad bc bd cd wa wb wc wd : Bool) → Bool
counted ab ac ad bc bd cd wa wb wc wd =
    eqb ((digit ab + digit ac + digit ad + digit bc + digit bd + digit cd + (digit wa + digit wb + digit wc + digit wd)) % 2) 1

-- the product of the weights and of Psi, and of what stands for it where the last weight is 0
pub counts_psi : (ab ac ad bc bd cd wa wb wc wd : Bool) →
    not wa ⊙ not wb ⊙ not wc ⊙ not wd ⊙ not (not ab ⊙ not ac ⊙ not ad ⊙ not bc ⊙ not bd ⊙ not cd) ≡ counted ab ac ad bc bd cd wa wb wc wd
counts_psi =
    law (all λ ab. all λ ac. all λ ad. all λ bc. all λ bd. all λ cd. all λ wa. all λ wb. all λ wc. all λ wd.
    not wa ⊙ not wb ⊙ not wc ⊙ not wd ⊙ not (not ab ⊙ not ac ⊙ not ad ⊙ not bc ⊙ not bd ⊙ not cd) ≐ counted ab ac ad bc bd cd wa wb wc wd)
    tt

pub counts_far : (ab ac bc wa wb wc : Bool) →
    not wa ⊙ not wb ⊙ not wc ⊙ not (not ab ⊙ not ac ⊙ not bc ⊙ true) ≡ counted ab ac false bc false false wa wb wc false
counts_far =
    law (all λ ab. all λ ac. all λ bc. all λ wa. all λ wb. all λ wc.
    not wa ⊙ not wb ⊙ not wc ⊙ not (not ab ⊙ not ac ⊙ not bc ⊙ true) ≐ counted ab ac false bc false false wa wb wc false) tt

turn12 : (ab ac ad bc bd cd wa wb wc wd : Bool) → not (counted (not ab) bc bd ac ad cd wb wa wc wd) ≡ counted ab ac ad bc bd cd wa wb wc wd
turn12 =
    law (all λ ab. all λ ac. all λ ad. all λ bc. all λ bd. all λ cd. all λ wa. all λ wb. all λ wc. all λ wd.
    not (counted (not ab) bc bd ac ad cd wb wa wc wd) ≐ counted ab ac ad bc bd cd wa wb wc wd) tt

turn23 : (ab ac ad bc bd cd wa wb wc wd : Bool) → not (counted ac ab ad (not bc) cd bd wa wc wb wd) ≡ counted ab ac ad bc bd cd wa wb wc wd
turn23 =
    law (all λ ab. all λ ac. all λ ad. all λ bc. all λ bd. all λ cd. all λ wa. all λ wb. all λ wc. all λ wd.
    not (counted ac ab ad (not bc) cd bd wa wc wb wd) ≐ counted ab ac ad bc bd cd wa wb wc wd) tt

turn34 : (ab ac ad bc bd cd wa wb wc wd : Bool) → not (counted ab ad ac bd bc (not cd) wa wb wd wc) ≡ counted ab ac ad bc bd cd wa wb wc wd
turn34 =
    law (all λ ab. all λ ac. all λ ad. all λ bc. all λ bd. all λ cd. all λ wa. all λ wb. all λ wc. all λ wd.
    not (counted ab ad ac bd bc (not cd) wa wb wd wc) ≐ counted ab ac ad bc bd cd wa wb wc wd) tt

-- ---- neighbours exchanged

-- the pair is out of order the other way round
abbrev pub Turns : (p q : Point) → Type 0
Turns p q = lt_z p.n q.n ≡ not (lt_z q.n p.n)

abbrev less : Point → Point → Bool
less p q = lt_z p.n q.n

abbrev neg : Point → Bool
neg p = lt_z p.w (pos 0)

module _ (a b c d : Point) where
  pub exchange12 : Turns a b → not (last_positive b a c d) ≡ last_positive a b c d
  exchange12 h =
      (λ i. not (counted (h i) (less c b) (less d b) (less c a) (less d a) (less d c) (neg b) (neg a) (neg c) (neg d)))
      ∙ turn12 (less b a) (less c a) (less d a) (less c b) (less d b) (less d c) (neg a) (neg b) (neg c) (neg d)

  pub exchange23 : Turns b c → not (last_positive a c b d) ≡ last_positive a b c d
  exchange23 h =
      (λ i. not (counted (less c a) (less b a) (less d a) (h i) (less d c) (less d b) (neg a) (neg c) (neg b) (neg d)))
      ∙ turn23 (less b a) (less c a) (less d a) (less c b) (less d b) (less d c) (neg a) (neg b) (neg c) (neg d)

  pub exchange34 : Turns c d → not (last_positive a b d c) ≡ last_positive a b c d
  exchange34 h =
      (λ i. not (counted (less b a) (less d a) (less c a) (less d b) (less c b) (h i) (neg a) (neg b) (neg d) (neg c)))
      ∙ turn34 (less b a) (less c a) (less d a) (less c b) (less d b) (less d c) (neg a) (neg b) (neg c) (neg d)
