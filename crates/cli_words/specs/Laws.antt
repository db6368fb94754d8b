-- The laws of words as numbers: what the machine forms of a sign and a size, in the form in which a call's answer arrives; and that a
-- number is read back from its decimal. Assumes nothing.
use Rattle.std.specs.Prelude.{ℕ, zero, suc, ◌+◌, ◌*◌, ◌-◌, ◌<◌, ◌≤◌, ◌^◌, ◌≡◌, refl, Bool, false, not, List, [], ◌∷◌, ℤ, pos, negsuc, nat_abs, ◌-ℤ◌, Some, None, length}
use Rattle.std.proofs.Common.{sym, ◌∙◌, arith, to_z, of_z, SFits}
use Rattle.std.proofs.Math.Path.{ap, ap₂}
use Rattle.std.proofs.Math.Bool.{true}
use Rattle.std.proofs.Math.Decide.{dec_lt}
use borrow.Author.Tests.{lt-ltb, le-leb, ne_eqb, not-true, not-false}
use Rattle.std.proofs.Math.IntN.{+ℤ_idl}
use Rattle.std.proofs.Math.Seq.{take-length}
use Rattle.std.specs.Int.{w64}
use Rattle.std.proofs.lemmas.Int.{to_z_pos, to_z-of_z}
use Rattle.laws.specs.Lists.{Each}
use Rattle.print.specs.Text.{decimal, signed_decimal}
use Rattle.print.specs.Decimal.{IsDigit, number_from, decimal_digits, decimal_some, number_back}
use Rattle.off_items.specs.Numbers.{is_digit, digits, value, minus_at, body_of, is_whole, size_of, made, largest, at_most}
use Rattle.off_items.specs.Laws.{at_most_low, at_most_high}
use Rattle.cli_words.specs.Word.{most, is_number, number_of}

-- ---- a sign and a size, in the machine

minus : (m : ℕ) → pos 0 -ℤ pos m ≡ made true m
minus zero = refl
minus (suc m) = +ℤ_idl (negsuc m)

made_fits : (m : ℕ) → m < 2 ^ 63 → SFits w64 (made true m)
made_fits zero h = record { sfits = h }
made_fits (suc m) h = record { sfits = omega arith }

module _ (m : ℕ) (h : m ≤ most) where
  negated : pos 0 -ℤ to_z w64 m ≡ made true m
  negated = ap (λ (z : ℤ). pos 0 -ℤ z) (to_z_pos w64 m (omega arith)) ∙ minus m

  pub negated_fits : SFits w64 (pos 0 -ℤ to_z w64 m)
  negated_fits = rw negated (made_fits m (omega arith))

  pub below : {b : Bool} → b ≡ true → to_z w64 (of_z w64 (pos 0 -ℤ to_z w64 m)) ≡ made b m
  below p = to_z-of_z w64 _ negated_fits ∙ negated ∙ ap (λ (b : Bool). made b m) (sym p)

  pub above : {b : Bool} → b ≡ false → to_z w64 m ≡ made b m
  above p = to_z_pos w64 m (omega arith) ∙ ap (λ (b : Bool). made b m) (sym p)

-- ---- a word's number

at_most_twice : (m l n : ℕ) → m ≤ l → at_most m (at_most l n) ≡ at_most m n
at_most_twice m l n h = by (dec_lt l n)
  where
    by : Dec (l < n) → at_most m (at_most l n) ≡ at_most m n
    by (yes k) = ap (at_most m) (at_most_high l n (omega arith)) ∙ at_most_high m l h ∙ sym (at_most_high m n (omega arith))
    by (no k) = ap (at_most m) (at_most_low l n (omega arith))

module _ (w : List ℕ) {o : Bool} (p : o ≡ is_number w) where
  pub no_number : not o ≡ true → None ≡ number_of w
  unfolding number_of
  no_number q = rw (sym p ∙ not-true o q)

  pub told_number : {b : Bool} {n m : ℕ} {z : ℤ} → not o ≡ false → b ≡ minus_at true w 0 → n ≡ at_most largest (size_of true w 0 (length w)) →
      m ≡ at_most most n → z ≡ made b m → Some z ≡ number_of w
  unfolding number_of
  told_number {z} q pb pn pm pz =
      rw (sym p ∙ not-false o q)
      (ap Some (pz ∙ ap₂ made pb (pm ∙ ap (at_most most) pn ∙ at_most_twice most largest (size_of true w 0 (length w)) (omega arith))))

-- ---- reading back

value_from : (n : ℕ) (t : List ℕ) → value n t ≡ number_from n t
unfolding value number_from
value_from n [] = refl
value_from n (c ∷ t) = value_from (10 * n + (c - 48)) t ∙ ap (λ (k : ℕ). number_from k t) (omega arith)

all_digits : (t : List ℕ) → Each IsDigit t → digits t ≡ true
unfolding digits is_digit
all_digits [] h = refl
all_digits (c ∷ t) h = rw (le-leb 48 c h.0.least, le-leb c 57 h.0.most, all_digits t h.1)

plain_read : (t : List ℕ) → Each IsDigit t → 0 < length t → number_of t ≡ Some (pos (at_most most (value 0 t)))
unfolding number_of is_whole size_of body_of minus_at
plain_read [] h k = absurd (omega arith)
plain_read (c ∷ t) h k =
    let l : 48 ≤ c = h.0.least in
    rw (ne_eqb c 45 (λ e. omega arith), take-length t, all_digits (c ∷ t) h, lt-ltb 0 (suc (length t)) k)

minus_read : (t : List ℕ) → Each IsDigit t → 0 < length t → number_of (45 ∷ t) ≡ Some (made true (at_most most (value 0 t)))
unfolding number_of is_whole size_of body_of minus_at
minus_read t h k = rw (take-length t, lt-ltb 1 (suc (length t)) (omega arith), all_digits t h)

decimal_value : (n : ℕ) → n ≤ most → at_most most (value 0 (decimal n)) ≡ n
decimal_value n h = ap (at_most most) (value_from 0 (decimal n) ∙ number_back n) ∙ at_most_low most n h

-- a number within the bound is found again in its decimal
pub number_read : (z : ℤ) → nat_abs z ≤ most → number_of (signed_decimal z) ≡ Some z
unfolding signed_decimal
number_read (pos n) h = plain_read (decimal n) (decimal_digits n) (decimal_some n) ∙ ap (λ (k : ℕ). Some (pos k)) (decimal_value n h)
number_read (negsuc n) h =
    minus_read (decimal (suc n)) (decimal_digits (suc n)) (decimal_some (suc n))
    ∙ ap (λ (k : ℕ). Some (made true k)) (decimal_value (suc n) h)
