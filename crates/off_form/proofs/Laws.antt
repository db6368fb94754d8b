-- The laws of the form, in the form in which a loop's turn, a call's answer and a branch arrive. Assumes nothing.
use Rattle.std.specs.Prelude.{ℕ, suc, ◌+◌, ◌*◌, ◌-◌, ◌<◌, ◌≤◌, ◌^◌, ◌≡◌, List, Bool, true, not, ◌&&◌, length, eqb, Option, Some, None, MatchOption, Result, Ok, Err}
use Rattle.std.specs.Option.{unwrap_or}
use Rattle.std.proofs.Math.Path.{sym, ap, ap₂}
use Rattle.std.proofs.Common.{◌∙◌, arith, mul-le-mul_left, rules, eq-eqb, ne_eqb}
use Rattle.std.proofs.Math.Bool.{false, cond}
use Rattle.std.proofs.Math.Decide.{dec_lt}
use Rattle.std.proofs.lemmas.Bool.{not-true, not-false}
use Rattle.off_items.specs.Items.{start_of, end_of, after}
use Rattle.off_items.specs.Numbers.{is_whole, size_of, whole_from, largest, at_most}
use Rattle.off_items.specs.Laws.{at_most_low, at_most_high}
use Rattle.off_form.specs.Form.{is_three, is_four, keyword, go_on, wholes, face_from, faces_from, end_from, numbers_of, counts_then, form_of}
use Rattle.off_form.proofs.Places.{after_in, wholes_reach, wholes_many, face_reach, faces_reach, faces_many}
use Rattle.off_form.specs.declared.Flaw.{Flaw}
use Rattle.off_form.specs.declared.Flaw.TheVariants.{Outside, Sides}

-- ---- the loop over numbers: at `at`, i of n read, the rest is w

down : (n i : ℕ) → i < n → n - i ≡ suc (n - (i + 1))
down n i h = omega arith

none : (n i : ℕ) → n ≤ i → n - i ≡ 0
none n i h = omega arith

all : (n : ℕ) → n - 0 ≡ n
all n = omega arith

pub wholes_begin : (g : Bool) (s : List ℕ) (n at : ℕ) → wholes g (n - 0) s at ≡ wholes g n s at
wholes_begin g s n at = ap (λ (k : ℕ). wholes g k s at) (all n)

module _ (g : Bool) (s : List ℕ) (n i at : ℕ) {w : Result ℕ Flaw} (inv : wholes g (n - i) s at ≡ w) where
  pub wholes_stop : n ≤ i → Ok at ≡ w
  unfolding wholes
  wholes_stop h = sym (ap (λ (k : ℕ). wholes g k s at) (none n i h)) ∙ inv

  -- the item from b up to e is whole, or not
  module _ (h : i < n) {b e : ℕ} {o : Bool} (pb : b ≡ start_of s at) (pe : e ≡ end_of s at) (p : o ≡ is_whole g s b e) where
    turn : cond o (wholes g (n - (i + 1)) s e) (Err (Outside b)) ≡ w
    unfolding wholes
    turn =
        ap (λ (t : Bool). cond t (wholes g (n - (i + 1)) s e) (Err (Outside b))) (p ∙ ap₂ (is_whole g s) pb pe)
        ∙ ap₂ (λ (j k : ℕ). cond (whole_from g s at) (wholes g (n - (i + 1)) s j) (Err (Outside k))) pe pb
        ∙ sym (ap (λ (k : ℕ). wholes g k s at) (down n i h)) ∙ inv

    pub wholes_found : not o ≡ true → Err (Outside b) ≡ w
    wholes_found q = ap (λ (t : Bool). cond t (wholes g (n - (i + 1)) s e) (Err (Outside b))) (sym (not-true o q)) ∙ turn

    pub wholes_next : not o ≡ false → wholes g (n - (i + 1)) s e ≡ w
    wholes_next q = ap (λ (t : Bool). cond t (wholes g (n - (i + 1)) s e) (Err (Outside b))) (sym (not-false o q)) ∙ turn

-- ---- a face, and the loop over faces

module _ (s : List ℕ) (at : ℕ) {b e : ℕ} {o : Bool} (pb : b ≡ start_of s at) (pe : e ≡ end_of s at) (p : o ≡ is_whole false s b e) where
  face_all : cond o (cond (eqb (size_of false s b e) 3) (wholes false 3 s e) (Err (Sides b))) (Err (Outside b)) ≡ face_from s at
  unfolding face_from
  face_all =
      ap (λ (t : Bool). cond t (cond (eqb (size_of false s b e) 3) (wholes false 3 s e) (Err (Sides b))) (Err (Outside b))) p
      ∙ ap₂
      (λ (j k : ℕ). cond (is_whole false s j k) (cond (eqb (size_of false s j k) 3) (wholes false 3 s k) (Err (Sides j))) (Err (Outside j)))
      pb pe

  pub face_outside : not o ≡ true → Err (Outside b) ≡ face_from s at
  face_outside q =
      ap (λ (t : Bool). cond t (cond (eqb (size_of false s b e) 3) (wholes false 3 s e) (Err (Sides b))) (Err (Outside b)))
      (sym (not-true o q)) ∙ face_all

  module _ (q : not o ≡ false) {n : ℕ} (r : n ≡ at_most largest (size_of false s b e)) where
    face_by : {t : Bool} → eqb (size_of false s b e) 3 ≡ t → cond t (wholes false 3 s e) (Err (Sides b)) ≡ face_from s at
    face_by f =
        ap (λ (t : Bool). cond t (wholes false 3 s e) (Err (Sides b))) (sym f)
        ∙ ap (λ (t : Bool). cond t (cond (eqb (size_of false s b e) 3) (wholes false 3 s e) (Err (Sides b))) (Err (Outside b)))
        (sym (not-false o q)) ∙ face_all

    three : n ≡ 3 → size_of false s b e ≡ 3
    three f = by (dec_lt (size_of false s b e) largest)
      where
        by : Dec (size_of false s b e < largest) → size_of false s b e ≡ 3
        by (yes h) = omega (arith, at_most_low largest (size_of false s b e) (omega arith))
        by (no h) = absurd (omega (arith, at_most_high largest (size_of false s b e) (omega arith)))

    pub face_sides : (n ≡ 3 → ⊥) → Err (Sides b) ≡ face_from s at
    face_sides f = face_by (ne_eqb (size_of false s b e) 3 (λ g. f (r ∙ ap (at_most largest) g ∙ at_most_low largest 3 (omega arith))))

    pub face_corners : {x : Result ℕ Flaw} → n ≡ 3 → x ≡ wholes false 3 s e → x ≡ face_from s at
    face_corners f x = x ∙ face_by (eq-eqb (size_of false s b e) 3 (three f))

pub faces_begin : (s : List ℕ) (n at : ℕ) → faces_from (n - 0) s at ≡ faces_from n s at
faces_begin s n at = ap (λ (k : ℕ). faces_from k s at) (all n)

module _ (s : List ℕ) (n i at : ℕ) {w : Result ℕ Flaw} (inv : faces_from (n - i) s at ≡ w) where
  pub faces_stop : n ≤ i → Ok at ≡ w
  unfolding faces_from
  faces_stop h = sym (ap (λ (k : ℕ). faces_from k s at) (none n i h)) ∙ inv

  module _ {o : Result ℕ Flaw} (h : i < n) (p : o ≡ face_from s at) where
    faces_turn : go_on o (faces_from (n - (i + 1)) s) ≡ w
    unfolding faces_from
    faces_turn = ap (λ (r : Result ℕ Flaw). go_on r (faces_from (n - (i + 1)) s)) p ∙ sym (ap (λ (k : ℕ). faces_from k s at) (down n i h)) ∙ inv

    pub faces_flaw : {f : Flaw} → o ≡ Err f → Err f ≡ w
    faces_flaw q = ap (λ (r : Result ℕ Flaw). go_on r (faces_from (n - (i + 1)) s)) (sym q) ∙ faces_turn

    pub faces_next : {k : ℕ} → o ≡ Ok k → faces_from (n - (i + 1)) s k ≡ w
    faces_next q = ap (λ (r : Result ℕ Flaw). go_on r (faces_from (n - (i + 1)) s)) (sym q) ∙ faces_turn

pub ruleset reads = (wholes_stop, wholes_found, wholes_next, faces_stop, faces_flaw, faces_next, rules)

-- ---- where a reading ends, within the text

module _ (s : List ℕ) {at k : ℕ} {o : Result ℕ Flaw} (h : at ≤ length s) (q : o ≡ Ok k) where
  pub wholes_within : (g : Bool) (n : ℕ) → o ≡ wholes g n s at → k ≤ length s
  wholes_within g n p = (wholes_reach s g n at h (sym p ∙ q)).within

  pub face_within : o ≡ face_from s at → k ≤ length s
  face_within p = (face_reach s at h (sym p ∙ q)).within

  pub faces_within : (n : ℕ) → o ≡ faces_from n s at → k ≤ length s
  faces_within n p = (faces_reach s n at h (sym p ∙ q)).within

pub counts_within : (s : List ℕ) {k : ℕ} {o : Result ℕ Flaw} → o ≡ Ok k → o ≡ wholes false 3 s (after s 1) → k ≤ length s
counts_within s q p = wholes_within s (after_in s 1) q false 3 p

-- ---- counts above what a text holds: c is the count n, or the largest number told

module _ (s : List ℕ) (short : length s < 2 ^ 63) (at : ℕ) (within : at ≤ length s) (n : ℕ) {c : ℕ} (e : c ≡ at_most largest n) where
  small : c < largest → c ≡ n
  small h = by (dec_lt n largest)
    where
      by : Dec (n < largest) → c ≡ n
      by (yes k) = e ∙ at_most_low largest n (omega arith)
      by (no k) = absurd (omega (arith, at_most_high largest n (omega arith)))

  large : (m : ℕ) → m ≤ c → m ≤ largest → m ≤ n
  large m h l = by (dec_lt n largest)
    where
      by : Dec (n < largest) → m ≤ n
      by (yes k) = omega (arith, at_most_low largest n (omega arith))
      by (no k) = omega arith

  pub faces_held : {r : Result ℕ Flaw} → r ≡ faces_from c s at → r ≡ faces_from n s at
  faces_held p = p ∙ by (dec_lt c largest)
    where
      by : Dec (c < largest) → faces_from c s at ≡ faces_from n s at
      by (yes k) = ap (λ (m : ℕ). faces_from m s at) (small k)
      by (no k) = faces_many s c n at within (omega arith) (omega (arith, large largest (omega arith) (omega arith)))

  module _ {per d : ℕ} (f : d ≡ per) where
    pub numbers_few : {m : ℕ} {r : Result ℕ Flaw} → c < largest → m ≡ c * d → r ≡ wholes true m s at → r ≡ wholes true (n * per) s at
    numbers_few k q p = p ∙ ap (λ (m : ℕ). wholes true m s at) (q ∙ ap₂ (λ (x y : ℕ). x * y) (small k) f)

    pub numbers_many : {r : Result ℕ Flaw} → 2 ^ 62 ≤ c → 3 ≤ d → r ≡ wholes true largest s at → r ≡ wholes true (n * per) s at
    numbers_many k l p =
        p ∙ wholes_many s true largest (n * per) at within (omega arith)
        (let a = large (2 ^ 62) k (omega arith) in let b : n * 3 ≤ n * per = mul-le-mul_left n (omega arith) in omega arith)

-- ---- tests of bytes that must be so

pub equal_stops : {n m : ℕ} (v : ℕ) (y : Bool) → n ≡ m → (n ≡ v → ⊥) → false ≡ (eqb m v && y)
equal_stops {n} {m} v y p h = sym (ap (λ (b : Bool). b && y) (ne_eqb m v (λ q. h (p ∙ q))))

pub equal_goes_on : {n m : ℕ} (v : ℕ) {y w : Bool} → n ≡ m → n ≡ v → w ≡ y → w ≡ (eqb m v && y)
equal_goes_on {n} {m} v {y} p q e = e ∙ sym (ap (λ (b : Bool). b && y) (eq-eqb m v (sym p ∙ q)))

pub equal_last : {n m : ℕ} (v : ℕ) → n ≡ m → eqb n v ≡ eqb m v
equal_last v p = ap (λ (k : ℕ). eqb k v) p

pub ruleset equals = (equal_stops, equal_goes_on, equal_last)

module _ (s : List ℕ) (i n : ℕ) {o : Bool} (p : o ≡ is_three s i n) where
  pub keyword_three : o ≡ true → 3 ≡ keyword s i n
  unfolding keyword
  keyword_three q = ap (λ (b : Bool). cond b 3 (cond (is_four s i n) 4 0)) (sym q ∙ p)

  module _ (q : o ≡ false) {t : Bool} (e : t ≡ is_four s i n) where
    keyword_by : cond t 4 0 ≡ keyword s i n
    unfolding keyword
    keyword_by = ap₂ (λ (a b : Bool). cond a 3 (cond b 4 0)) (sym q ∙ p) e

    pub keyword_four : t ≡ true → 4 ≡ keyword s i n
    keyword_four f = ap (λ (b : Bool). cond b 4 0) (sym f) ∙ keyword_by

    pub keyword_none : t ≡ false → 0 ≡ keyword s i n
    keyword_none f = ap (λ (b : Bool). cond b 4 0) (sym f) ∙ keyword_by

keyword_low : (s : List ℕ) (i n : ℕ) → keyword s i n ≤ 4
unfolding keyword
keyword_low s i n = by (is_three s i n) (is_four s i n)
  where
    by : (a b : Bool) → cond a 3 (cond b 4 0) ≤ 4
    by true b = omega arith
    by false true = omega arith
    by false false = omega arith

-- what the keyword is told as, where there is none
pub keyword_told : (w : ℕ) (o : Option ℕ) → MatchOption o (w ≡ 0) (λ per. (per ≡ w) × (3 ≤ per)) → unwrap_or o 0 ≡ w
keyword_told w None h = sym h
keyword_told w (Some n) h = h.0

-- ---- the end, and the whole

module _ (s : List ℕ) (at : ℕ) {b : ℕ} (p : b ≡ start_of s at) where
  pub end_reached : b ≡ length s → Ok at ≡ end_from s at
  unfolding end_from
  end_reached q = sym (ap (λ (t : Bool). cond t (Ok at) (Err (Outside (start_of s at)))) (eq-eqb (start_of s at) (length s) (sym p ∙ q)))

  pub end_outside : (b ≡ length s → ⊥) → Err (Outside b) ≡ end_from s at
  unfolding end_from
  end_outside q =
      ap (λ (i : ℕ). Err (Outside i)) p
      ∙ sym (ap (λ (t : Bool). cond t (Ok at) (Err (Outside (start_of s at)))) (ne_eqb (start_of s at) (length s) (λ e. q (p ∙ e))))

pub counts_from : (s : List ℕ) {at : ℕ} {r : Result ℕ Flaw} → at ≡ after s 1 → r ≡ wholes false 3 s at → r ≡ wholes false 3 s (after s 1)
counts_from s p e = e ∙ ap (wholes false 3 s) p

pub numbers_low : (s : List ℕ) {n : ℕ} → n ≡ numbers_of s → n ≤ 4
numbers_low s e = omega (arith, keyword_low s (start_of s 0) (end_of s 0 - start_of s 0))

-- by the first item
module _ (s : List ℕ) {b e n : ℕ} (p : b ≡ start_of s 0) (q : e ≡ end_of s 0) (k : n ≡ keyword s b (e - b)) where
  pub keyword_first : n ≡ numbers_of s
  keyword_first = k ∙ ap₂ (λ (i j : ℕ). keyword s i (j - i)) p q

  pub form_outside : n ≡ 0 → Err (Outside b) ≡ form_of s
  unfolding form_of
  form_outside z =
      ap (λ (i : ℕ). Err (Outside i)) p
      ∙ sym (ap (λ (t : Bool). cond t (Err (Outside (start_of s 0))) (counts_then s)) (eq-eqb (numbers_of s) 0 (sym keyword_first ∙ z)))

  pub form_counts : (n ≡ 0 → ⊥) → {r : Result ℕ Flaw} → r ≡ counts_then s → r ≡ form_of s
  unfolding form_of
  form_counts h x =
      x
      ∙ sym (ap (λ (t : Bool). cond t (Err (Outside (start_of s 0))) (counts_then s)) (ne_eqb (numbers_of s) 0 (λ z. h (keyword_first ∙ z))))
