-- The laws of items and numbers, in the form in which a loop's turn arrives: the rest equals the whole. Assumes nothing.
use Prim.Native.Nat.{ℕ, suc, ◌+◌, ◌*◌, ◌-◌, ◌<◌, ◌≤◌}
use Rattle.std.specs.Prelude.{◌≡◌, refl, Bool, ◌&&◌, length, get_or, take, drop}
use Rattle.std.proofs.Math.Path.{sym, ap, ap₂}
use Rattle.std.proofs.Common.{◌∙◌, add-one, rules, eq-eqb, ne_eqb, le-leb, lt-ltb, le-ltb, drop_of_length-le, length-take, drop-cons}
use mathlib.Core.List.{List, [], ◌∷◌}
use Rattle.std.proofs.Math.Bool.{true, false, not, cond}
use native.Mathlib.Omega.{arith}
use Rattle.std.proofs.Math.Decide.{dec_lt}
use Rattle.std.proofs.lemmas.Bool.{lt-leb, not-true, not-false}
use Rattle.std.proofs.Math.Dec.{ltb}
use Rattle.std.proofs.Math.Seq.{slice, slice-cons}
use Rattle.off_items.specs.Items.{hash, separates, begins, comments, gap, word}
use Rattle.off_items.specs.Lines.{line_end, comment_passed}
use Rattle.off_items.specs.Numbers.{is_digit, digits, value, minus_at, body_of, is_whole, size_of, largest, at_most}

-- ---- the gap before an item, and the item

module _ (s : List ℕ) (i : ℕ) {w : ℕ} (inv : i + gap false (drop i s) ≡ w) where
  pub gap_stop : length s ≤ i → i ≡ w
  unfolding gap
  gap_stop h = omega (arith, ap (gap false) (drop_of_length-le s h), inv)

  module _ (h : i < length s) where
    gap_turn : {b m : Bool} → begins false (get_or s i 0) ≡ b → comments false (get_or s i 0) ≡ m →
        i + cond b 0 (suc (gap m (drop (suc i) s))) ≡ w
    unfolding gap
    gap_turn p q =
        ap₂ (λ (b m : Bool). i + cond b 0 (suc (gap m (drop (suc i) s)))) (sym p) (sym q)
        ∙ ap (λ (l : List ℕ). i + gap false l) (sym (drop-cons s i 0 h)) ∙ inv

    module _ {o : Bool} (p : o ≡ separates (get_or s i 0)) where
      begun : {b : Bool} → not o ≡ b → begins false (get_or s i 0) ≡ b
      unfolding begins
      begun q = ap not (sym p) ∙ q

      pub gap_found : not o ≡ true → i ≡ w
      gap_found q = omega (arith, gap_turn (begun q) refl)

      module _ (q : not o ≡ false) where
        pub gap_next : (get_or s i 0 ≡ hash → ⊥) → (i + 1) + gap false (drop (i + 1) s) ≡ w
        unfolding comments
        gap_next r =
            let f : gap false (drop (i + 1) s) ≡ gap false (drop (suc i) s) = ap (λ (k : ℕ). gap false (drop k s)) (add-one i) in
            omega (arith, gap_turn (begun q) (ne_eqb (get_or s i 0) hash r))

        -- a comment is passed by its line's end
        pub gap_comment : {k : ℕ} → get_or s i 0 ≡ hash → k ≡ line_end s (i + 1) → k + gap false (drop k s) ≡ w
        unfolding comments
        gap_comment r e =
            let f : gap true (drop (i + 1) s) ≡ gap true (drop (suc i) s) = ap (λ (k : ℕ). gap true (drop k s)) (add-one i) in
            omega (arith, comment_passed s (i + 1) e, gap_turn (begun q) (eq-eqb (get_or s i 0) hash r))

module _ (s : List ℕ) (i : ℕ) {w : ℕ} where
  pub word_stop : i + word (drop i s) ≡ w → length s ≤ i → i ≡ w
  unfolding word
  word_stop inv h = omega (arith, ap word (drop_of_length-le s h), inv)

  module _ (h : i < length s) {o : Bool} where
    pub word_found : i + word (drop i s) ≡ w → o ≡ separates (get_or s i 0) → o ≡ true → i ≡ w
    unfolding word
    word_found inv p q =
        let e : word (drop i s) ≡ 0 = ap word (drop-cons s i 0 h) ∙ ap (λ (b : Bool). cond b 0 (suc (word (drop (suc i) s)))) (sym p ∙ q) in
        omega arith

    pub word_next : i + word (drop i s) ≡ w → o ≡ separates (get_or s i 0) → o ≡ false → (i + 1) + word (drop (i + 1) s) ≡ w
    unfolding word
    word_next inv p q =
        let e : word (drop i s) ≡ suc (word (drop (suc i) s)) =
        ap word (drop-cons s i 0 h) ∙ ap (λ (b : Bool). cond b 0 (suc (word (drop (suc i) s)))) (sym p ∙ q) in
        let f : word (drop (i + 1) s) ≡ word (drop (suc i) s) = ap (λ (k : ℕ). word (drop k s)) (add-one i) in
        omega arith

-- ---- digits

slice_none : (i e : ℕ) (s : List ℕ) → e ≤ i → slice i e s ≡ []
slice_none i e s h = drop_of_length-le (take e s) {i = i} (omega (arith, length-take e s))

slice_next : (i e : ℕ) (s : List ℕ) → i < e → e ≤ length s → slice i e s ≡ get_or s i 0 ∷ slice (i + 1) e s
slice_next i e s h k = slice-cons i e s 0 h k ∙ ap (λ (j : ℕ). get_or s i 0 ∷ slice j e s) (sym (add-one i))

module _ (s : List ℕ) (i e : ℕ) where
  module _ {w : Bool} (inv : digits (slice i e s) ≡ w) where
    pub digits_stop : e ≤ i → true ≡ w
    unfolding digits
    digits_stop h = sym (ap digits (slice_none i e s h)) ∙ inv

    turn : {o : Bool} → i < e → e ≤ length s → o ≡ is_digit (get_or s i 0) → (o && digits (slice (i + 1) e s)) ≡ w
    unfolding digits
    turn h k p = ap (λ (b : Bool). b && digits (slice (i + 1) e s)) p ∙ sym (ap digits (slice_next i e s h k)) ∙ inv

    pub digits_found : {o : Bool} → i < e → e ≤ length s → o ≡ is_digit (get_or s i 0) → not o ≡ true → false ≡ w
    digits_found {o} h k p q = ap (λ (b : Bool). b && digits (slice (i + 1) e s)) (sym (not-true o q)) ∙ turn h k p

    pub digits_next : {o : Bool} → i < e → e ≤ length s → o ≡ is_digit (get_or s i 0) → not o ≡ false → digits (slice (i + 1) e s) ≡ w
    digits_next {o} h k p q = ap (λ (b : Bool). b && digits (slice (i + 1) e s)) (sym (not-false o q)) ∙ turn h k p

-- ---- the largest number told

pub at_most_low : (m n : ℕ) → n ≤ m → at_most m n ≡ n
unfolding at_most
at_most_low m n h = simp (le-leb n m h)

pub at_most_high : (m n : ℕ) → m ≤ n → at_most m n ≡ m
unfolding at_most
at_most_high m n h = by (dec_lt m n)
  where
    by : Dec (m < n) → at_most m n ≡ m
    by (yes k) = simp (lt-leb n m k)
    by (no k) = let e : n ≡ m = omega arith in rw (e, le-leb m m (omega arith))

-- digits tell no less than those before them
value_grows : (n : ℕ) (w : List ℕ) → n ≤ value n w
unfolding value
value_grows n [] = omega arith
value_grows n (c ∷ w) = omega (arith, value_grows (10 * n + (c - 48)) w)

-- so a number may be held to the largest on the way
pub value_held : (m n : ℕ) (w : List ℕ) → at_most m (value (at_most m n) w) ≡ at_most m (value n w)
value_held m n w = by (dec_lt m n)
  where
    by : Dec (m < n) → at_most m (value (at_most m n) w) ≡ at_most m (value n w)
    by (yes h) =
        ap (λ (k : ℕ). at_most m (value k w)) (at_most_high m n (omega arith))
        ∙ at_most_high m (value m w) (value_grows m w) ∙ sym (at_most_high m (value n w) (omega (arith, value_grows n w)))
    by (no h) = ap (λ (k : ℕ). at_most m (value k w)) (at_most_low m n (omega arith))

module _ (s : List ℕ) (i e n : ℕ) {w : ℕ} (inv : at_most largest (value n (slice i e s)) ≡ w) where
  pub value_stop : n ≤ largest → e ≤ i → n ≡ w
  unfolding value
  value_stop k h = sym (at_most_low largest n k) ∙ ap (λ (l : List ℕ). at_most largest (value n l)) (sym (slice_none i e s h)) ∙ inv

  pub value_next : {d m : ℕ} → i < e → e ≤ length s → d ≡ get_or s i 0 - 48 → m ≡ at_most largest (10 * n + d) →
      at_most largest (value m (slice (i + 1) e s)) ≡ w
  unfolding value
  value_next h k q p =
      ap (λ (j : ℕ). at_most largest (value j (slice (i + 1) e s))) (p ∙ ap (λ (d : ℕ). at_most largest (10 * n + d)) q)
      ∙ value_held largest (10 * n + (get_or s i 0 - 48)) (slice (i + 1) e s)
      ∙ ap (λ (l : List ℕ). at_most largest (value n l)) (sym (slice_next i e s h k)) ∙ inv

at_most_le : (m n : ℕ) → at_most m n ≤ m
at_most_le m n = by (dec_lt m n)
  where
    by : Dec (m < n) → at_most m n ≤ m
    by (yes h) = omega (arith, at_most_high m n (omega arith))
    by (no h) = omega (arith, at_most_low m n (omega arith))

pub told_le : (m n : ℕ) {k : ℕ} → k ≡ at_most m n → k ≤ m
told_le m n e = omega (arith, at_most_le m n)

pub ruleset scans = (
  gap_stop,
  gap_found,
  gap_next,
  gap_comment,
  word_stop,
  word_found,
  word_next,
  digits_stop,
  digits_found,
  digits_next,
  value_stop,
  value_next,
  told_le,
  rules,
)

-- ---- what a branch says

pub body_behind : (g : Bool) (s : List ℕ) (i : ℕ) {o : Bool} → o ≡ minus_at g s i → o ≡ true → i + 1 ≡ body_of g s i
unfolding body_of
body_behind g s i p q = ap (λ (b : Bool). cond b (i + 1) i) (sym q ∙ p)

pub body_there : (g : Bool) (s : List ℕ) (i : ℕ) {o : Bool} → o ≡ minus_at g s i → o ≡ false → i ≡ body_of g s i
unfolding body_of
body_there g s i p q = ap (λ (b : Bool). cond b (i + 1) i) (sym q ∙ p)

-- the digits of an item, from their start b
module _ (g : Bool) (s : List ℕ) (i e : ℕ) {b : ℕ} (p : b ≡ body_of g s i) where
  pub whole_digits : {o : Bool} → b < e → o ≡ digits (slice b e s) → o ≡ is_whole g s i e
  unfolding is_whole
  whole_digits h q =
      q ∙ sym (ap (λ (t : Bool). t && digits (slice b e s)) (lt-ltb b e h)) ∙ ap (λ (k : ℕ). ltb k e && digits (slice k e s)) p

  pub whole_empty : e ≤ b → false ≡ is_whole g s i e
  unfolding is_whole
  whole_empty h = sym (ap (λ (t : Bool). t && digits (slice b e s)) (le-ltb b e h)) ∙ ap (λ (k : ℕ). ltb k e && digits (slice k e s)) p

  pub size_body : {n : ℕ} → n ≡ at_most largest (value 0 (slice b e s)) → n ≡ at_most largest (size_of g s i e)
  unfolding size_of
  size_body q = q ∙ ap (λ (k : ℕ). at_most largest (value 0 (slice k e s))) p
