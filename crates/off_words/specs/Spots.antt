-- The line and the column of an offset in a text, both from 1: a newline ends a line. Assumes nothing.
use Rattle.std.specs.Prelude.{ℕ, ◌+◌, ◌≤◌, ◌<◌, min, ◌≡◌, cond, List, [], ◌∷◌, eqb, length, get_or, take, drop}
use Rattle.std.proofs.Math.Path.{sym, ap₂}
use Rattle.std.proofs.Common.{ap, ◌∙◌, arith, add-one, rules, eq-eqb, ne_eqb, drop_of_length-le, drop-cons, take_all}
use Rattle.std.proofs.Math.Decide.{dec_lt}
use Rattle.off_items.specs.Items.{newline}

-- what follows a byte c on line n, in column n
unfoldable pub line_behind : ℕ → ℕ → ℕ
line_behind n c = cond (eqb c newline) (n + 1) n

unfoldable pub column_behind : ℕ → ℕ → ℕ
column_behind n c = cond (eqb c newline) 1 (n + 1)

-- what follows a text that starts on line n, in column n
unfoldable pub line_after : ℕ → List ℕ → ℕ
line_after n [] = n
line_after n (c ∷ s) = line_after (line_behind n c) s

unfoldable pub column_after : ℕ → List ℕ → ℕ
column_after n [] = n
column_after n (c ∷ s) = column_after (column_behind n c) s

abbrev pub line_of : List ℕ → ℕ → ℕ
line_of s k = line_after 1 (take k s)

abbrev pub column_of : List ℕ → ℕ → ℕ
column_of s k = column_after 1 (take k s)

-- ---- a loop's turn: the rest ends where the whole does

module _ (s : List ℕ) (i n : ℕ) {w : ℕ} where
  pub line_stop : line_after n (drop i s) ≡ w → length s ≤ i → n ≡ w
  unfolding line_after
  line_stop inv h = sym (ap (line_after n) (drop_of_length-le s h)) ∙ inv

  pub line_next : {m : ℕ} → line_after n (drop i s) ≡ w → i < length s → m ≡ line_behind n (get_or s i 0) → line_after m (drop (i + 1) s) ≡ w
  unfolding line_after
  line_next inv h p =
      ap₂ (λ (k j : ℕ). line_after k (drop j s)) p (add-one i) ∙ sym (ap (line_after n) (drop-cons s i 0 h)) ∙ inv

  pub column_stop : column_after n (drop i s) ≡ w → length s ≤ i → n ≡ w
  unfolding column_after
  column_stop inv h = sym (ap (column_after n) (drop_of_length-le s h)) ∙ inv

  pub column_next : {m : ℕ} → column_after n (drop i s) ≡ w → i < length s → m ≡ column_behind n (get_or s i 0) →
      column_after m (drop (i + 1) s) ≡ w
  unfolding column_after
  column_next inv h p =
      ap₂ (λ (k j : ℕ). column_after k (drop j s)) p (add-one i) ∙ sym (ap (column_after n) (drop-cons s i 0 h)) ∙ inv

-- ---- what a branch says

module _ (n c : ℕ) where
  pub line_ends : c ≡ newline → n + 1 ≡ line_behind n c
  unfolding line_behind
  line_ends e = rw (eq-eqb c newline e)

  pub line_stays : (c ≡ newline → ⊥) → n ≡ line_behind n c
  unfolding line_behind
  line_stays e = rw (ne_eqb c newline e)

  pub column_starts : c ≡ newline → 1 ≡ column_behind n c
  unfolding column_behind
  column_starts e = rw (eq-eqb c newline e)

  pub column_grows : (c ≡ newline → ⊥) → n + 1 ≡ column_behind n c
  unfolding column_behind
  column_grows e = rw (ne_eqb c newline e)

pub ruleset turns = (line_stop, line_next, column_stop, column_next, line_ends, line_stays, column_starts, column_grows, rules)

-- all bytes before an offset, where the text may be shorter
pub take_least : (s : List ℕ) (k : ℕ) {e : ℕ} → e ≡ min k (length s) → take e s ≡ take k s
take_least s k {e} p = by (dec_lt k (length s))
  where
    by : Dec (k < length s) → take e s ≡ take k s
    by (yes h) = let q : e ≡ k = omega arith in ap (λ (n : ℕ). take n s) q
    by (no h) = take_all e s (omega arith) ∙ sym (take_all k s (omega arith))
