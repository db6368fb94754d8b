-- What a branch of the code says of a definition that goes by the same test. Assumes nothing.
use Rattle.std.specs.Prelude.{◌≡◌, refl, Bool, false, not, cond, ◌&&◌, eqb, ltb, length, get_or, set}
use Rattle.std.proofs.Common.{sym, ap₂, ◌∙◌, rules, drop-cons}
use Rattle.std.proofs.Math.Path.{ap}
use Rattle.std.proofs.Math.Bool.{true}
use mathlib.Core.List.{List, [], ◌∷◌}
use Prim.Native.Nat.{ℕ, suc, ◌+◌, ◌*◌, ◌-◌, ◌≤◌, ◌<◌}
use native.Mathlib.Omega.{arith}
use Rattle.std.proofs.Math.Numerals.{add-one}
use borrow.Author.Tests.{eq-eqb, ne_eqb, lt-ltb, le-ltb, le-leb, lt-leb, leb-true}
use Rattle.std.proofs.Math.Dec.{leb}
use Rattle.std.proofs.Math.ListN.{drop, drop_of_length-le}
use Rattle.off_items.specs.Numbers.{is_digit}
use Rattle.class_read.specs.Totals.{is_letter, held, grown, ends, plus, paired, next_of, read_of, end_of}
use Rattle.class_read.specs.declared.Reading.{Reading}
use Rattle.class_read.specs.declared.Fed.{Fed}

module _ {A : Type 0} where
  pub pick_taken : {o x : Bool} {a w : A} (b : A) → o ≡ x → o ≡ true → w ≡ a → w ≡ cond x a b
  pick_taken {a} b p q e = e ∙ ap (λ (t : Bool). cond t a b) (sym q ∙ p)

  pub pick_passed : {o x : Bool} {b w : A} (a : A) → o ≡ x → o ≡ false → w ≡ b → w ≡ cond x a b
  pick_passed {b} a p q e = e ∙ ap (λ (t : Bool). cond t a b) (sym q ∙ p)

  pub pick_same : {m n k : ℕ} {a w : A} (b : A) → m ≡ n → m ≡ k → w ≡ a → w ≡ cond (eqb n k) a b
  pick_same {n} {k} {a} b p q e = e ∙ sym (ap (λ (t : Bool). cond t a b) (eq-eqb n k (sym p ∙ q)))

  pub pick_differ : {m n k : ℕ} {b w : A} (a : A) → m ≡ n → (m ≡ k → ⊥) → w ≡ b → w ≡ cond (eqb n k) a b
  pick_differ {n} {k} {b} a p q e = e ∙ sym (ap (λ (t : Bool). cond t a b) (ne_eqb n k (λ s. q (p ∙ s))))

  pub pick_here : {n k : ℕ} {a w : A} (b : A) → n ≡ k → w ≡ a → w ≡ cond (eqb n k) a b
  pick_here {n} {k} {a} b q e = e ∙ sym (ap (λ (t : Bool). cond t a b) (eq-eqb n k q))

  pub pick_not_here : {n k : ℕ} {b w : A} (a : A) → (n ≡ k → ⊥) → w ≡ b → w ≡ cond (eqb n k) a b
  pick_not_here {n} {k} {b} a q e = e ∙ sym (ap (λ (t : Bool). cond t a b) (ne_eqb n k q))

  pub pick_less : {m n : ℕ} {a w : A} (b : A) → m < n → w ≡ a → w ≡ cond (ltb m n) a b
  pick_less {m} {n} {a} b h e = e ∙ sym (ap (λ (t : Bool). cond t a b) (lt-ltb m n h))

  pub pick_not_less : {m n : ℕ} {b w : A} (a : A) → n ≤ m → w ≡ b → w ≡ cond (ltb m n) a b
  pick_not_less {m} {n} {b} a h e = e ∙ sym (ap (λ (t : Bool). cond t a b) (le-ltb m n h))

  pub letter_taken : {o : Bool} {m c : ℕ} {a w : A} (b : A) → m ≡ c → o ≡ is_letter m → o ≡ true → w ≡ a → w ≡ cond (is_letter c) a b
  letter_taken b p q = pick_taken b (q ∙ ap is_letter p)

  pub letter_passed : {o : Bool} {m c : ℕ} {b w : A} (a : A) → m ≡ c → o ≡ is_letter m → o ≡ false → w ≡ b → w ≡ cond (is_letter c) a b
  letter_passed a p q = pick_passed a (q ∙ ap is_letter p)

pub no_more : {o x : Bool} → o ≡ x → not o ≡ not x
no_more p = ap not p

-- what a call put, in other words
pub plus_put : (t : List ℕ) (k n : ℕ) {s : ℕ} → s ≡ held (get_or t k 0 + n) → set t k s ≡ plus t k n
unfolding plus
plus_put t k n e = ap (set t k) e

pub pairs_put : (t : List ℕ) {u : List ℕ} {p : ℕ} (w n : ℕ) → p ≡ held (w * n) → u ≡ plus t 15 p → u ≡ plus t 15 (held (w * n))
pairs_put t w n p e = e ∙ ap (plus t 15) p

pub paired_put : (t : List ℕ) {u v : List ℕ} (k c n w : ℕ) → u ≡ plus t k n → v ≡ paired u c n w → v ≡ paired (plus t k n) c n w
paired_put t k c n w p e = e ∙ ap (λ (l : List ℕ). paired l c n w) p

pub ruleset picks = (
  pick_taken,
  pick_passed,
  pick_same,
  pick_differ,
  pick_here,
  pick_not_here,
  pick_less,
  pick_not_less,
  letter_taken,
  letter_passed,
  no_more,
  pairs_put,
  paired_put,
  rules,
)

-- the letter of a number that ends
letter_least : (x y : Bool) → (x && y) ≡ true → x ≡ true
letter_least true y e = refl
letter_least false y e = e

ends_letter : (x y : Bool) → cond x y false ≡ true → x ≡ true
ends_letter true y e = refl
ends_letter false y e = e

pub ends_from : (c b : ℕ) {o : Bool} → o ≡ ends c b → o ≡ true → 65 ≤ c
unfolding ends is_letter
ends_from c b p q =
    leb-true 65 c (letter_least (leb 65 c) (leb c 90) (ends_letter (leb 65 c && leb c 90) (not (is_digit b)) (sym p ∙ q)))

-- ---- a number with one more digit

pub grown_is : (n b : ℕ) {t d r : ℕ} → t ≡ held (n * 10) → d ≡ b - 48 → r ≡ held (t + d) → r ≡ grown n b
unfolding grown
grown_is n b p q e = e ∙ ap₂ (λ (x y : ℕ). held (x + y)) p q

-- ---- a text, byte by byte: the rest, from what is known here, ends as the whole does

module _ (form : List ℕ) (text : List ℕ) (i : ℕ) (r : Reading) where
  module _ (h : i < length text) (k : r.at < length form) where
    goes_on : leb (length form) r.at ≡ false
    goes_on = lt-leb (length form) r.at k

    pub read_next : {q w : Reading} → q ≡ next_of form r (get_or text i 0) → read_of form r (drop i text) ≡ w →
        read_of form q (drop (i + 1) text) ≡ w
    unfolding read_of
    read_next e inv = rw (e, add-one i) (sym (ap (read_of form r) (drop-cons text i 0 h) ∙ rw goes_on) ∙ inv)

    pub end_next : {q : Reading} {w : ℕ} → q ≡ next_of form r (get_or text i 0) → i + end_of form r (drop i text) ≡ w →
        i + 1 + end_of form q (drop (i + 1) text) ≡ w
    unfolding end_of
    end_next {q} e inv =
        let n : end_of form r (drop i text) ≡ suc (end_of form (next_of form r (get_or text i 0)) (drop (suc i) text)) =
        ap (end_of form r) (drop-cons text i 0 h) ∙ rw goes_on in
        let m : end_of form q (drop (i + 1) text) ≡ end_of form (next_of form r (get_or text i 0)) (drop (suc i) text) = rw (e, add-one i) in
        omega arith

  module _ {w : Fed} (reads : read_of form r (drop i text) ≡ w.reading) (so_far : i + end_of form r (drop i text) ≡ w.end) where
    pub fed_end : length text ≤ i → record { end = i; reading = r } ≡ w
    unfolding read_of end_of
    fed_end h =
        let n : drop i text ≡ [] = drop_of_length-le text h in
        let m : end_of form r (drop i text) ≡ 0 = ap (end_of form r) n in
        let e : i ≡ w.end = omega (arith, so_far) in
        λ j. record { end = e j; reading = (sym (ap (read_of form r) n) ∙ reads) j }

    pub fed_stops : i < length text → length form ≤ r.at → record { end = i; reading = r } ≡ w
    unfolding read_of end_of
    fed_stops h k =
        let stop : leb (length form) r.at ≡ true = le-leb (length form) r.at k in
        let m : end_of form r (drop i text) ≡ 0 = ap (end_of form r) (drop-cons text i 0 h) ∙ rw stop in
        let q : read_of form r (drop i text) ≡ r = ap (read_of form r) (drop-cons text i 0 h) ∙ rw stop in
        let e : i ≡ w.end = omega (arith, so_far) in
        λ j. record { end = e j; reading = (sym q ∙ reads) j }

-- no more is read than there is
end_within : (form : List ℕ) (r : Reading) (t : List ℕ) → end_of form r t ≤ length t
unfolding end_of
end_within form r [] = omega arith
end_within form r (b ∷ t) = go (leb (length form) r.at) (end_within form (next_of form r b) t)
  where
    go : (o : Bool) → end_of form (next_of form r b) t ≤ length t → cond o 0 (suc (end_of form (next_of form r b) t)) ≤ suc (length t)
    go true h = omega arith
    go false h = omega arith

pub fed_within : (form : List ℕ) (r : Reading) (t : List ℕ) {f : Fed} → f ≡ record { end = end_of form r t; reading = read_of form r t } →
    f.end ≤ length t
fed_within form r t e = omega (arith, ap (λ (f : Fed). f.end) e, end_within form r t)
