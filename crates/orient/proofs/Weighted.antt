-- Of a scene's points all weights but the last point's are not 0 (`specs/Weighted.antt`), and the last has the highest number; hence c3 of
-- four different points is not 0, they have a sign, and the slide tells that of c3. Assumes nothing.
use Rattle.std.specs.Prelude.{◌≡◌, refl, ◌≢◌, Bool, true, not, ℕ, zero, suc, ◌+◌, ◌*◌, ◌-◌, ◌≤◌, ◌<◌, ℤ, pos, negsuc, ◌+ℤ◌, ◌-ℤ◌, ◌*ℤ◌}
use Rattle.std.proofs.Math.Path.{sym}
use Rattle.std.proofs.Common.{◌∙◌, ⊎_elim, mul-le-mul, eq-or-lt_of_le, arith, lt-ltb, le-ltb, ltb-true, ltb-false}
use Rattle.std.proofs.Math.Bool.{false}
use Rattle.std.proofs.Math.Dec.{ltb}
use Rattle.std.proofs.Math.IntN.{ℤ_discrete}
use Rattle.std.specs.Int.Signed.{lt_z}
use Rattle.laws.specs.Sign.{Sign, sign, ◌or◌, none, plus, minus}
use Rattle.scene.specs.declared.Row.{Row}
use Rattle.orient.specs.Signs.{Four, Upto}
use Rattle.orient.specs.Terms.{c0, c1, c2, c3, orientation, point_at}
use Rattle.orient.specs.Laws.{psi, far_psi, c3_psi, c3_far, terms12, terms23, terms34}
use Rattle.orient.specs.Highest.{by_highest}
use Rattle.orient.specs.Settled.{Settled, same, ◌times◌, negated, above, weight, minus_pos, difference}
use Rattle.orient.specs.Slide.{last_positive, Tells, counted, counts_psi, counts_far, exchange12, exchange23, exchange34}
use Rattle.orient.specs.declared.Point.{Point}
use Rattle.orient.specs.Weighted.{Weighted, SignDefined}

-- ---- c3 by its factors

other_order : (i j : ℕ) → i ≢ j → ltb i j ≡ not (ltb j i)
other_order i j h = by (ltb j i) refl
  where
    by : (b : Bool) → ltb j i ≡ b → ltb i j ≡ not b
    by true e = let l = ltb-true j i e in le-ltb i j (omega arith)
    by false e = let l = ltb-false j i e in lt-ltb i j (omega arith)

-- the number d is not below the others
outward : (a b c d : ℕ) → 1 ≤ a → 1 ≤ b → 1 ≤ c → a ≤ d → b ≤ d → c ≤ d →
    Settled ((pos d -ℤ pos a) *ℤ (pos d -ℤ pos b) *ℤ (pos d -ℤ pos c) +ℤ pos a *ℤ pos b *ℤ pos c) true
outward a b c d ha hb hc ad bd cd =
    rw (minus_pos d a ad, minus_pos d b bd, minus_pos d c cd)
    (above ((d - a) * (d - b) * (d - c) + a * b * c) (let h = mul-le-mul (mul-le-mul ha hb) hc in omega arith))

module _ (n : ℕ) (row : ℕ → Row) (weighted : Weighted n row) where
  abbrev at : ℕ → Point
  at = point_at row

  abbrev neg : ℕ → Bool
  neg i = lt_z (row i).w (pos 0)

  abbrev Last : (a b c d : ℕ) → Type 0
  Last a b c d = Settled (c3 (at a) (at b) (at c) (at d)) (last_positive (at a) (at b) (at c) (at d))

  -- where the first three are below n
  module _ (a b c d : ℕ) (f : Four (Upto n) a b c d) (an : a < n) (bn : b < n) (cn : c < n) where
    wa : (row a).w ≢ pos 0
    wa = weighted a f.a_in.0 an

    wb : (row b).w ≢ pos 0
    wb = weighted b f.b_in.0 bn

    wc : (row c).w ≢ pos 0
    wc = weighted c f.c_in.0 cn

    all_weighted : (row d).w ≢ pos 0 → Last a b c d
    unfolding psi
    all_weighted wd =
        same (c3_psi (at a) (at b) (at c) (at d) wa wb wc wd)
        (weight (row a).w wa times weight (row b).w wb times weight (row c).w wc times weight (row d).w wd times negated
        (difference a b f.ab times difference a c f.ac times difference a d f.ad times difference b c
        f.bc times difference b d f.bd
        times difference c d f.cd))
        (counts_psi (ltb b a) (ltb c a) (ltb d a) (ltb c b) (ltb d b) (ltb d c) (neg a) (neg b) (neg c) (neg d))

    last_at_infinity : d ≡ n → (row d).w ≡ pos 0 → Last a b c d
    unfolding far_psi
    last_at_infinity dn zd =
        same (c3_far (at a) (at b) (at c) (at d) wa wb wc zd)
        (weight (row a).w wa times weight (row b).w wb times weight (row c).w wc times negated
        (difference a b f.ab times difference a c f.ac times difference b c f.bc
        times outward a b c d f.a_in.0 f.b_in.0 f.c_in.0 (omega arith) (omega arith) (omega arith)))
        (counts_far (ltb b a) (ltb c a) (ltb c b) (neg a) (neg b) (neg c)
        ∙ (λ i. counted (ltb b a) (ltb c a) (in_order a an i) (ltb c b) (in_order b bn i) (in_order c cn i) (neg a) (neg b) (neg c)
        (lt_z (sym zd i) (pos 0))))
      where
        in_order : (k : ℕ) → k < n → false ≡ ltb d k
        in_order k l = sym (le-ltb d k (omega arith))

    highest_last : Last a b c d
    highest_last =
        ⊎_elim (λ e. by e (ℤ_discrete (row d).w (pos 0))) (λ l. all_weighted (weighted d f.d_in.0 l)) (eq-or-lt_of_le f.d_in.1)
      where
        by : d ≡ n → Dec ((row d).w ≡ pos 0) → Last a b c d
        by e (yes h) = last_at_infinity e h
        by e (no h) = all_weighted h

  last_term : (a b c d : ℕ) → Four (Upto n) a b c d → Last a b c d
  last_term =
      by_highest n Last
      (record {
        swap1 = λ a b c d f h.
            same (terms12 (at b) (at a) (at c) (at d)).e3 (negated h) (exchange12 (at a) (at b) (at c) (at d) (other_order a b f.ab));
        swap2 = λ a b c d f h.
            same (terms23 (at a) (at c) (at b) (at d)).e3 (negated h) (exchange23 (at a) (at b) (at c) (at d) (other_order b c f.bc));
        swap3 = λ a b c d f h.
            same (terms34 (at a) (at b) (at d) (at c)).e3 (negated h) (exchange34 (at a) (at b) (at c) (at d) (other_order c d f.cd));
      })
      highest_last

-- ---- so there is a sign

zero_sign : (z : ℤ) → sign z ≡ none → z ≡ pos 0
zero_sign (pos zero) e = refl
zero_sign (pos (suc n)) e = cc
zero_sign (negsuc n) e = cc

last_none : (s t : Sign) → s or t ≡ none → t ≡ none
last_none none t e = e
last_none plus t e = cc
last_none minus t e = cc

no_sign : (a b c d : Point) → orientation a b c d ≡ none → c3 a b c d ≡ pos 0
unfolding orientation
no_sign a b c d e =
    zero_sign (c3 a b c d) (last_none (sign (c2 a b c d)) _ (last_none (sign (c1 a b c d)) _ (last_none (sign (c0 a b c d)) _ e)))

module _ (n : ℕ) (row : ℕ → Row) (weighted : Weighted n row) (a b c d : ℕ) (f : Four (Upto n) a b c d) where
  pub c3_nonzero : c3 (point_at row a) (point_at row b) (point_at row c) (point_at row d) ≢ pos 0
  c3_nonzero = (last_term n row weighted a b c d f).nonzero

  pub oriented : orientation (point_at row a) (point_at row b) (point_at row c) (point_at row d) ≢ none
  oriented e = c3_nonzero (no_sign (point_at row a) (point_at row b) (point_at row c) (point_at row d) e)

pub slide_tells : (row : ℕ → Row) (a b c d : ℕ) → SignDefined row a b c d → Tells (point_at row a) (point_at row b) (point_at row c)
    (point_at row d)
slide_tells row a b c d k = sym (last_term k.points row k.weighted a b c d k.four).plus
