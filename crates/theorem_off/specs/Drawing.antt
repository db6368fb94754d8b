-- What a word tells: a decimal is read as its number, with a sign or without. Assumes nothing.
use Rattle.std.specs.Prelude.{ℕ, suc, ◌+◌, ◌*◌, ◌-◌, ◌<◌, ◌≤◌, ◌≡◌, refl, Bool, ◌&&◌, ℤ, pos, negsuc, get_or, take}
use Rattle.std.proofs.Common.{sym, ◌∙◌, le-leb, lt-ltb, ne_eqb, length-take, length-drop, drop-drop, get_or-drop, get_or-take}
use Rattle.std.proofs.Math.Path.{ap, ap₂}
use Rattle.std.proofs.Math.Bool.{true, false, cond}
use mathlib.Core.List.{List, [], ◌∷◌}
use native.Mathlib.Omega.{arith}
use Rattle.std.proofs.Math.Dec.{eqb}
use Rattle.std.proofs.Math.ListN.{length, drop}
use Rattle.std.proofs.Math.Seq.{slice}
use Rattle.laws.specs.Lists.{Each}
use Rattle.print.specs.Text.{decimal, signed_decimal}
use Rattle.print.specs.Decimal.{IsDigit, decimal_digits, decimal_some, number_from, number_back}
use Rattle.off_items.specs.Items.{start_of, end_of}
use Rattle.off_items.specs.Numbers.{is_digit, digits, value, minus_at, body_of, is_whole, size_of, made, whole_from, size_from}
use Rattle.off_items.specs.Numbers as items
use Rattle.scene.specs.Bytes.{byte_at}
use Rattle.theorem_off.specs.Words.{Word, Rest, next_item}

digits_all : (w : List ℕ) → Each IsDigit w → digits w ≡ true
unfolding digits is_digit
digits_all [] h = refl
digits_all (c ∷ w) h = rw (le-leb 48 c h.0.least, le-leb c 57 h.0.most, digits_all w h.1)

value_same : (a : ℕ) (w : List ℕ) → value a w ≡ number_from a w
unfolding value number_from
value_same a [] = refl
value_same a (c ∷ w) =
    let e : 10 * a + (c - 48) ≡ a * 10 + (c - 48) = omega arith in
    value_same (10 * a + (c - 48)) w ∙ ap (λ (n : ℕ). number_from n w) e

value_back : (n : ℕ) → value 0 (decimal n) ≡ n
value_back n = value_same 0 (decimal n) ∙ number_back n

-- the bytes from i up to e of s are w
module _ (s : List ℕ) (i e : ℕ) (w : Word) (spelt : slice i e s ≡ w) where
  tail_spelt : (m : ℕ) → slice (i + m) e s ≡ drop m w
  tail_spelt m = sym (drop-drop m i (take e s)) ∙ ap (drop m) spelt

  inside : (m : ℕ) → 0 < length (drop m w) → i + m < e
  inside m h = omega (arith, ap length (tail_spelt m), length-drop (i + m) (take e s), length-take e s)

  head_is : 0 < length w → byte_at s i ≡ get_or w 0 0
  head_is h =
      let k : i < e = omega (arith, inside 0 h) in
      let z : i + 0 ≡ i = omega arith in
      sym (get_or-take e s i 0 k) ∙ ap (λ (j : ℕ). get_or (take e s) j 0) (sym z) ∙ sym (get_or-drop i (take e s) 0 0)
      ∙ ap (λ (l : List ℕ). get_or l 0 0) spelt

  -- its digits start m bytes behind i
  module _ (g : Bool) (m n : ℕ) (b : body_of g s i ≡ i + m) (d : drop m w ≡ decimal n) where
    body_is : slice (body_of g s i) e s ≡ decimal n
    body_is = ap (λ (j : ℕ). slice j e s) b ∙ tail_spelt m ∙ d

    whole_is : is_whole g s i e ≡ true
    unfolding is_whole
    whole_is =
        let k : i + m < e = inside m (omega (arith, ap length d, decimal_some n)) in
        let l : body_of g s i < e = omega arith in
        ap₂ (λ (x y : Bool). x && y) (lt-ltb (body_of g s i) e l) (ap digits body_is ∙ digits_all (decimal n) (decimal_digits n))

    size_is : size_of g s i e ≡ n
    unfolding size_of
    size_is = ap (value 0) body_is ∙ value_back n

  -- a number without a sign
  module _ (n : ℕ) (d : w ≡ decimal n) where
    no_sign : body_of false s i ≡ i + 0
    unfolding body_of minus_at
    no_sign = omega arith

    pub count_whole : is_whole false s i e ≡ true
    count_whole = whole_is false 0 n no_sign d

    pub count_size : size_of false s i e ≡ n
    count_size = size_is false 0 n no_sign d

  -- a minus sign stands first, or not
  starts : {o : Bool} → 0 < length w → eqb (get_or w 0 0) 45 ≡ o → minus_at true s i ≡ o
  unfolding minus_at
  starts h q = ap (λ (c : ℕ). eqb c 45) (head_is h) ∙ q

  body : {o : Bool} → minus_at true s i ≡ o → body_of true s i ≡ cond o (i + 1) i
  unfolding body_of
  body q = ap (λ (o : Bool). cond o (i + 1) i) q

first_digit : (w : List ℕ) → Each IsDigit w → 0 < length w → eqb (get_or w 0 0) 45 ≡ false
first_digit [] h k = absurd (omega arith)
first_digit (c ∷ w) h k = let l : 48 ≤ c = h.0.least in ne_eqb c 45 (λ e. omega arith)

-- a number with a sign
module _ (s : List ℕ) (i e : ℕ) (w : Word) (spelt : slice i e s ≡ w) where
  pub number_told : (z : ℤ) → w ≡ signed_decimal z → (is_whole true s i e ≡ true) × (made (minus_at true s i) (size_of true s i e) ≡ z)
  unfolding signed_decimal
  number_told (pos n) d =
      let some : 0 < length w = omega (arith, ap length d, decimal_some n) in
      let q : minus_at true s i ≡ false =
      starts s i e w spelt some (ap (λ (l : List ℕ). eqb (get_or l 0 0) 45) d
      ∙ first_digit (decimal n) (decimal_digits n) (decimal_some n)) in
      let b : body_of true s i ≡ i + 0 = body s i e w spelt q ∙ (omega arith) in
      (whole_is s i e w spelt true 0 n b d, ap₂ made q (size_is s i e w spelt true 0 n b d))
  number_told (negsuc k) d =
      let some : 0 < length w = omega (arith, ap length d) in
      let q : minus_at true s i ≡ true = starts s i e w spelt some (ap (λ (l : List ℕ). eqb (get_or l 0 0) 45) d) in
      let b : body_of true s i ≡ i + 1 = body s i e w spelt q in
      let t : drop 1 w ≡ decimal (suc k) = ap (drop 1) d in
      (whole_is s i e w spelt true 1 (suc k) b t, ap₂ made q (size_is s i e w spelt true 1 (suc k) b t))

-- ---- of the first item from `at` on

pub record Count (s : List ℕ) (at n : ℕ) (ws : List Word) : Type 0 where
  pub whole : whole_from false s at ≡ true
  pub size : size_from false s at ≡ n
  pub rest : Rest (drop (end_of s at) s) ws

pub next_count : (s : List ℕ) (at n : ℕ) (ws : List Word) → Rest (drop at s) (decimal n ∷ ws) → Count s at n ws
next_count s at n ws x =
    let i = next_item s at (decimal n) ws x in
    record {
      whole = count_whole s (start_of s at) (end_of s at) (decimal n) i.spelt n refl;
      size = count_size s (start_of s at) (end_of s at) (decimal n) i.spelt n refl;
      rest = i.rest;
    }

pub record Signed (s : List ℕ) (at : ℕ) (z : ℤ) (ws : List Word) : Type 0 where
  pub whole : whole_from true s at ≡ true
  pub number : items.number_from s at ≡ z
  pub rest : Rest (drop (end_of s at) s) ws

pub next_signed : (s : List ℕ) (at : ℕ) (z : ℤ) (ws : List Word) → Rest (drop at s) (signed_decimal z ∷ ws) → Signed s at z ws
next_signed s at z ws x =
    let i = next_item s at (signed_decimal z) ws x in
    let n = number_told s (start_of s at) (end_of s at) (signed_decimal z) i.spelt z refl in
    record { whole = n.0; number = n.1; rest = i.rest }
