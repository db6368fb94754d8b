-- What the tests of `whole::read` say of its double, and a whole number that was cast to an i64. Assumes nothing.
use Rattle.std.specs.Prelude.{◌≡◌, ℕ, zero, suc, ◌^◌, ◌<◌, ◌≤◌, Bool, true, false, cond, not, T, ℤ, pos, negsuc, neg_ℤ, ◌≢◌, int_lt, nat_le, unsigned_abs, refl, Float, Ok, Err}
use Rattle.std.proofs.Common.{sym, ◌∙◌, ap, subst, suc-le-suc, le_of_lt, lt_of_le_of_lt, arith, lt→ltb, le→leb, nltb→le, lit<, ltb-true, le-leb, to_z, of_z, to_z-of_z}
use Rattle.std.specs.Int.Signed.{mag}
use Rattle.std.specs.Float.{fin, binary64}
use Rattle.std.specs.Float.Ieee.{of_int, add, lt, neg, in_signed, to_signed, in_float}
use Rattle.std.specs.Float.Ieee.Back.{positive_back, negative_back}
use Rattle.std.proofs.lemmas.Bool.{lt-leb}
use Rattle.std.specs.Int.{w64}
use Rattle.doubles.specs.Whole.{Is, is_whole, value_of, whole_is, lt_is, neg_is, of_int_is, plus_zero}
use Rattle.doubles.specs.Taken.{reading_of, weighed}
use Rattle.doubles.specs.declared.whole.Unfit.TheVariants.{NotWhole, Outside}

yes : {b : Bool} → b ≡ true → T b
yes h = subst T (sym h) tt

nay : {b : Bool} → b ≡ false → T (not b)
nay h = subst (λ (c : Bool). T (not c)) (sym h) tt

-- ---- from -most to most, by two comparisons

too_high_is : (z : ℤ) (most : ℕ) → int_lt (pos most) z ≡ true → nat_le (unsigned_abs z) most ≡ false
too_high_is (pos n) most h = lt-leb n most (ltb-true most n h)
too_high_is (negsuc n) most h = let k : ◌≡◌ {A = ℕ} 0 1 = cc in absurd (omega arith)

too_low_is : (z : ℤ) (most : ℕ) → int_lt z (neg_ℤ (pos most)) ≡ true → nat_le (unsigned_abs z) most ≡ false
too_low_is (pos n) zero h = absurd (omega (arith, ltb-true n 0 h))
too_low_is (pos n) (suc m) h = let k : ◌≡◌ {A = ℕ} 0 1 = cc in absurd (omega arith)
too_low_is (negsuc n) zero h = lt-leb (suc n) 0 (omega arith)
too_low_is (negsuc n) (suc m) h = lt-leb (suc n) (suc m) (omega (arith, ltb-true m n h))

between : (z : ℤ) (most : ℕ) → T (not (int_lt (pos most) z)) → T (not (int_lt z (neg_ℤ (pos most)))) → unsigned_abs z ≤ most
between (pos n) most a b = nltb→le most n a
between (negsuc n) zero a b = absurd b
between (negsuc n) (suc most) a b = suc-le-suc (nltb→le most n b)

-- an integer as a double, and back
back : (z : ℤ) → unsigned_abs z < 2 ^ 53 → T (in_signed binary64 63 (of_int binary64 z)) × (to_signed 63 (of_int binary64 z) ≡ z)
unfolding in_float
back (pos n) h = positive_back binary64 63 n (le→leb n (2 ^ 53) (le_of_lt h)) (lt_of_le_of_lt (le_of_lt h) (lit< tt))
back (negsuc n) h = negative_back binary64 63 n (lt→ltb n (2 ^ 53) (le_of_lt h)) (le_of_lt (lt_of_le_of_lt (le_of_lt h) (lit< tt)))

small_mag : (z : ℤ) → unsigned_abs z < 2 ^ 53 → mag z < 2 ^ 63
small_mag (pos n) h = lt_of_le_of_lt (le_of_lt h) (lit< tt)
small_mag (negsuc n) h = lt_of_le_of_lt (le_of_lt (le_of_lt h)) (lit< tt)

module _ (x : Float) (most : ℕ) (h : most < 2 ^ 53) {test : Bool} (f : test ≡ is_whole x) where
  abbrev limit : Float
  limit = of_int binary64 (pos most)

  limit_is : Is limit (pos most)
  limit_is = of_int_is (pos most) (lt→ltb most (2 ^ 53) h)

  whole : test ≡ true → is_whole x ≡ true
  whole t = sym f ∙ t

  above : is_whole x ≡ true → lt limit x ≡ int_lt (pos most) (value_of x)
  above t = lt_is limit x (pos most) (value_of x) limit_is (whole_is x (yes t))

  under : is_whole x ≡ true → lt x (neg limit) ≡ int_lt (value_of x) (neg_ℤ (pos most))
  under t = lt_is x (neg limit) (value_of x) (neg_ℤ (pos most)) (whole_is x (yes t)) (neg_is limit (pos most) limit_is)

  is : {a b : Bool} → is_whole x ≡ a → nat_le (unsigned_abs (value_of x)) most ≡ b →
      reading_of x most ≡ cond a (cond b (Ok (value_of x)) (Err Outside)) (Err NotWhole)
  is p q = λ i. cond (p i) (cond (q i) (Ok (value_of x)) (Err Outside)) (Err NotWhole)

  pub not_whole : test ≡ false → Err NotWhole ≡ reading_of x most
  not_whole t = sym (is (sym f ∙ t) refl)

  pub too_high : test ≡ true → lt limit x ≡ true → Err Outside ≡ reading_of x most
  too_high t a = sym (is (whole t) (too_high_is (value_of x) most (sym (above (whole t)) ∙ a)))

  pub too_low : test ≡ true → lt x (neg limit) ≡ true → Err Outside ≡ reading_of x most
  too_low t b = sym (is (whole t) (too_low_is (value_of x) most (sym (under (whole t)) ∙ b)))

  module _ (t : test ≡ true) (a : lt limit x ≡ false) (b : lt x (neg limit) ≡ false) where
    settled : add binary64 x (fin false 0 (pos 0)) ≡ of_int binary64 (value_of x)
    settled = plus_zero x (value_of x) (whole_is x (yes (whole t)))

    small : unsigned_abs (value_of x) ≤ most
    small = between (value_of x) most (nay (sym (above (whole t)) ∙ a)) (nay (sym (under (whole t)) ∙ b))

    abbrev low : unsigned_abs (value_of x) < 2 ^ 53
    low = lt_of_le_of_lt small h

    pub casts : T (in_signed binary64 63 (add binary64 x (fin false 0 (pos 0))))
    casts = subst (λ (y : Float). T (in_signed binary64 63 y)) (sym settled) (back (value_of x) low).0

    pub as_cast : Ok (to_z w64 (of_z w64 (to_signed 63 (add binary64 x (fin false 0 (pos 0)))))) ≡ reading_of x most
    as_cast =
        ap (λ (z : ℤ). Ok (to_z w64 (of_z w64 z))) (ap (λ (y : Float). to_signed 63 y) settled ∙ (back (value_of x) low).1)
        ∙ ap (λ (z : ℤ). Ok z) (to_z-of_z {w = w64} (record { sfits = small_mag (value_of x) low }))
        ∙ sym (is (whole t) (le-leb (unsigned_abs (value_of x)) most small))

-- ---- a number of an i64, read back from its bits

pub held : (d : ℤ) → mag d < 2 ^ 63 → to_z w64 (of_z w64 d) ≡ d
held d h = to_z-of_z {w = w64} (record { sfits = h })

-- a weight whose bits are 0 is outside, and any other is itself
pub nothing : (d : ℤ) → mag d < 2 ^ 63 → of_z w64 d ≡ 0 → Err Outside ≡ weighed (Ok d)
nothing d f h = ap (λ (z : ℤ). weighed (Ok z)) (sym (ap (λ (n : ℕ). to_z w64 n) h) ∙ held d f)

pub something : (d : ℤ) → mag d < 2 ^ 63 → (of_z w64 d ≢ 0) → Ok (to_z w64 (of_z w64 d)) ≡ weighed (Ok d)
something d f h = ap (λ (z : ℤ). Ok z) (held d f) ∙ go d h
  where
    go : (d : ℤ) → (of_z w64 d ≢ 0) → Ok d ≡ weighed (Ok d)
    go (pos zero) h = absurd (h refl)
    go (pos (suc n)) h = refl
    go (negsuc n) h = refl
