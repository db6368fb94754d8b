-- What a text makes of what is known, whatever stands behind it: the byte of a form, the digits of a number, a line. Assumes nothing.
use Rattle.std.specs.Prelude.{◌≡◌, Bool, true, false, not, ◌&&◌, ℕ, ◌+◌, ◌*◌, ◌-◌, ◌≤◌, ◌<◌, eqb, leb, ltb, length}
use Rattle.std.proofs.Math.Path.{refl}
use Rattle.std.proofs.Common.{sym, ap, ◌∙◌, arith, mul-le-mul}
use mathlib.Core.List.{List, [], ◌∷◌, ◌++◌}
use Rattle.std.proofs.Math.Decide.{dec_lt}
use Rattle.laws.specs.Lists.{Each}
use Rattle.laws.specs.Decides.{and_iff}
use Rattle.print.specs.Text.{decimal}
use Rattle.print.specs.Decimal.{IsDigit, decimal_digits, decimal_some, number_from, number_back}
use Rattle.scene.specs.Bytes.{byte_at}
use borrow.Author.Tests.{le-leb, lt-leb, lt-ltb, leb-true, ltb-true, eq-eqb, ne_eqb, eqb-true, not-true}
use Rattle.off_items.specs.Numbers.{is_digit, largest}
use Rattle.off_items.specs.Laws.{at_most_low, at_most_high}
use Rattle.class_read.specs.Totals.{is_letter, held, grown, number_of, ends, whole_of, counted_of}
use Rattle.class_read.specs.Totals.{turned, met_at, first_at, more_at, onward, begins, start_of, finished, next_of, read_of}
use Rattle.class_read.specs.declared.Reading.{Reading}

-- ---- numbers that are held

pub held_left : (a b : ℕ) → held (held a + b) ≡ held (a + b)
held_left a b = by (dec_lt largest a)
  where
    by : Dec (largest < a) → held (held a + b) ≡ held (a + b)
    by (yes h) =
        ap (λ (x : ℕ). held (x + b)) (at_most_high largest a (omega arith)) ∙ at_most_high largest (largest + b) (omega arith)
        ∙ sym (at_most_high largest (a + b) (omega arith))
    by (no h) = ap (λ (x : ℕ). held (x + b)) (at_most_low largest a (omega arith))

pub held_sum : (a b : ℕ) → held (held a + held b) ≡ held (a + b)
held_sum a b = held_left a (held b) ∙ ap held (omega arith) ∙ held_left b a ∙ ap held (omega arith)

pub held_times : (a b : ℕ) → held (held a * b) ≡ held (a * b)
held_times a b = by (dec_lt largest a) (dec_lt 0 b)
  where
    by : Dec (largest < a) → Dec (0 < b) → held (held a * b) ≡ held (a * b)
    by (no h) d = ap (λ (x : ℕ). held (x * b)) (at_most_low largest a (omega arith))
    by (yes h) (no d) = let e : b ≡ 0 = omega arith in rw e (ap held (omega arith))
    by (yes h) (yes d) =
        let m : a * 1 ≤ a * b = mul-le-mul (omega arith) d in
        ap (λ (x : ℕ). held (x * b)) (at_most_high largest a (omega arith)) ∙ at_most_high largest (largest * b) (omega arith)
        ∙ sym (at_most_high largest (a * b) (omega arith))

-- the digits t behind those of n
abbrev pub grown_by : ℕ → List ℕ → ℕ
grown_by n [] = n
grown_by n (b ∷ t) = grown_by (grown n b) t

grown_held : (n b : ℕ) → grown (held n) b ≡ held (n * 10 + (b - 48))
unfolding grown
grown_held n b = ap (λ (x : ℕ). held (x + (b - 48))) (held_times n 10) ∙ held_left (n * 10) (b - 48)

grown_by_law : (n : ℕ) (t : List ℕ) → grown_by (held n) t ≡ held (number_from n t)
unfolding number_from
grown_by_law n [] = refl
grown_by_law n (b ∷ t) = ap (λ (x : ℕ). grown_by x t) (grown_held n b) ∙ grown_by_law (n * 10 + (b - 48)) t

pub grown_decimal : (n : ℕ) → grown_by 0 (decimal n) ≡ held n
grown_decimal n =
    ap (λ (x : ℕ). grown_by x (decimal n)) (sym (at_most_low largest 0 (omega arith))) ∙ grown_by_law 0 (decimal n) ∙ ap held (number_back n)

is_digit_law : {b : ℕ} → IsDigit b → is_digit b ≡ true
unfolding is_digit
is_digit_law {b} h = rw (le-leb 48 b h.least, le-leb b 57 h.most)

-- ---- one byte

-- what is known at a place, its number so far, and the rest
abbrev pub known : (at number whole : ℕ) → List ℕ → Bool → ℕ → Reading
known at number whole totals longer read =
    record { at = at; number = number; whole = whole; totals = totals; longer = longer; reports = read }

-- a number with the letter c starts at p of the form, and x stands behind it
pub record Lettered (form : List ℕ) (p c x : ℕ) : Type 0 where
  pub inside : eqb p 0 ≡ false
  pub second : eqb (p + 1) 0 ≡ false
  pub first : byte_at form p ≡ 64
  pub letter : byte_at form (p + 1) ≡ c
  pub behind : byte_at form (p + 1 + 1) ≡ x
  pub is_letter_law : is_letter c ≡ true
  pub no_first : eqb c 64 ≡ false
  pub no_digit : is_digit x ≡ false
  pub last : ltb (p + 1 + 1) (length form) ≡ true
  pub room : ltb p (length form) ≡ true
  pub more_room : ltb (p + 1) (length form) ≡ true
  pub on : leb (length form) p ≡ false
  pub more_on : leb (length form) (p + 1) ≡ false

-- told by a test
unfoldable pub is_lettered : List ℕ → ℕ → Bool
is_lettered form p =
    ltb 0 p
    && (ltb (p + 1 + 1)
    (length form) && (eqb (byte_at form p) 64 && (is_letter (byte_at form (p + 1)) && not (is_digit (byte_at form (p + 1 + 1))))))

not_first : (c : ℕ) → is_letter c ≡ true → eqb c 64 ≡ false
unfolding is_letter
not_first c h = let l : 65 ≤ c = leb-true 65 c ((and_iff _ _).0 h).0 in ne_eqb c 64 (λ z. omega arith)

pub lettered : (form : List ℕ) (p : ℕ) → is_lettered form p ≡ true → Lettered form p (byte_at form (p + 1)) (byte_at form (p + 1 + 1))
unfolding is_lettered
lettered form p ok =
    let a = (and_iff _ _).0 ok in
    let b = (and_iff _ _).0 a.1 in
    let d = (and_iff _ _).0 b.1 in
    let e = (and_iff _ _).0 d.1 in
    let some : 0 < p = ltb-true 0 p a.0 in
    let room : p + 1 + 1 < length form = ltb-true (p + 1 + 1) (length form) b.0 in
    record {
      inside = ne_eqb p 0 (λ z. omega arith);
      second = ne_eqb (p + 1) 0 (λ z. omega arith);
      first = eqb-true (byte_at form p) 64 d.0;
      letter = refl;
      behind = refl;
      is_letter_law = e.0;
      no_first = not_first (byte_at form (p + 1)) e.0;
      no_digit = not-true _ e.1;
      last = b.0;
      room = lt-ltb p (length form) (omega arith);
      more_room = lt-ltb (p + 1) (length form) (omega arith);
      on = lt-leb (length form) p (omega arith);
      more_on = lt-leb (length form) (p + 1) (omega arith);
    }

module _ (form : List ℕ) (p c x : ℕ) (f : Lettered form p c x) (whole : ℕ) (totals : List ℕ) (longer : Bool) (k : ℕ) where
  first_digit : (b : ℕ) → is_digit b ≡ true →
      next_of form (known p 0 whole totals longer k) b ≡ known (p + 1) (grown 0 b) whole totals longer k
  unfolding next_of start_of begins onward first_at number_of whole_of counted_of ends is_letter finished
  first_digit b d = rw (f.inside, f.first, f.room, d, f.second)

  more_digit : (n b : ℕ) → is_digit b ≡ true →
      next_of form (known (p + 1) n whole totals longer k) b ≡ known (p + 1) (grown n b) whole totals longer k
  unfolding next_of start_of begins onward more_at number_of whole_of counted_of ends finished
  more_digit n b d = rw (f.second, f.letter, f.more_room, f.no_first, f.is_letter_law, d, f.second)

  last_byte : (n : ℕ) → next_of form (known (p + 1) n whole totals longer k) x
      ≡ known (turned form (p + 1 + 1 + 1)) 0 (whole_of c x n whole) (counted_of totals c x n whole) longer
      (finished (turned form (p + 1 + 1 + 1)) k)
  unfolding next_of start_of begins onward more_at met_at number_of
  last_byte n = rw (f.second, f.letter, f.more_room, f.no_first, f.is_letter_law, f.no_digit, f.last, f.behind, eq-eqb x x refl)

  -- ---- the digits of a number, and the byte behind it

  more_digits : (n : ℕ) (t : List ℕ) → Each IsDigit t → (rest : List ℕ) →
      read_of form (known (p + 1) n whole totals longer k) (t ++ rest) ≡ read_of form (known (p + 1) (grown_by n t) whole totals longer k) rest
  unfolding read_of
  more_digits n [] h rest = refl
  more_digits n (b ∷ t) h rest = rw (f.more_on, more_digit n b (is_digit_law h.0)) (more_digits (grown n b) t h.1 rest)

  digits : (t : List ℕ) → Each IsDigit t → 0 < length t → (rest : List ℕ) → read_of form (known p 0 whole totals longer k) (t ++ (x ∷ rest))
      ≡ read_of form
      (known (turned form (p + 1 + 1 + 1)) 0 (whole_of c x (grown_by 0 t) whole) (counted_of totals c x (grown_by 0 t) whole) longer
      (finished (turned form (p + 1 + 1 + 1)) k)) rest
  unfolding read_of
  digits [] h some rest = absurd (omega arith)
  digits (b ∷ t) h some rest =
      rw (f.on, first_digit b (is_digit_law h.0))
      (more_digits (grown 0 b) t h.1 (x ∷ rest) ∙ rw (f.more_on, last_byte (grown_by (grown 0 b) t)))

  pub number_leads : (n : ℕ) (rest : List ℕ) → read_of form (known p 0 whole totals longer k) (decimal n ++ (x ∷ rest))
      ≡ read_of form (known (turned form (p + 1 + 1 + 1)) 0 (whole_of c x (held n) whole) (counted_of totals c x (held n) whole) longer
      (finished (turned form (p + 1 + 1 + 1)) k)) rest
  number_leads n rest = rw (← grown_decimal n) (digits (decimal n) (decimal_digits n) (decimal_some n) rest)
