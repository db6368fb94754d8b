-- What a row is made of: a name byte by byte, and a number that a call answered. Assumes nothing.
use Rattle.std.specs.Prelude.{ℕ, zero, suc, ◌+◌, ◌<◌, ◌≤◌, ◌≡◌, refl, List, [], ◌∷◌, length, take, get_or}
use Rattle.std.proofs.Common.{sym, ◌∙◌, subst, arith, lt-ltb, le-ltb, eq-eqb, ne_eqb}
use Rattle.std.proofs.lemmas.List.{length-map}
use Rattle.print.specs.Text.{decimal}
use Rattle.print.specs.Put.{Put}
use Rattle.print.specs.Loops.{word_more, word_all}
use Rattle.table.specs.Row.{shown_byte, shown}

-- ---- a byte, by the tests

pub shown_low : {b : ℕ} → b < 32 → 63 ≡ shown_byte b
shown_low {b} h = rw (lt-ltb b 32 h)

pub shown_delete : {b : ℕ} → 32 ≤ b → b ≡ 127 → 63 ≡ shown_byte b
shown_delete {b} h e = rw (le-ltb b 32 h, eq-eqb b 127 e)

pub shown_same : {b : ℕ} → 32 ≤ b → (b ≡ 127 → ⊥) → b ≡ shown_byte b
shown_same {b} h d = rw (le-ltb b 32 h, ne_eqb b 127 d)

-- ---- a name, byte by byte

get_d_shown : (w : List ℕ) (i : ℕ) → i < length w → get_or (shown w) i 0 ≡ shown_byte (get_or w i 0)
get_d_shown [] i h = absurd (omega arith)
get_d_shown (b ∷ w) zero h = refl
get_d_shown (b ∷ w) (suc i) h = get_d_shown w i (omega arith)

module _ {l : List ℕ} {at : ℕ} (w : List ℕ) (i : ℕ) {m : List ℕ} {p : ℕ} (so_far : Put l at (take i (shown w)) m p) where
  pub shown_more : i < length w → {b : ℕ} → b ≡ shown_byte (get_or w i 0) → {n : List ℕ} {q : ℕ} → Put m p (b ∷ []) n q →
      Put l at (take (i + 1) (shown w)) n q
  shown_more h e {n} {q} x =
      word_more (shown w) i so_far (omega (arith, length-map w shown_byte))
      (subst (λ (c : ℕ). Put m p (c ∷ []) n q) (e ∙ sym (get_d_shown w i h)) x)

  pub shown_all : length w ≤ i → Put l at (shown w) m p
  shown_all h = word_all (shown w) i so_far (omega (arith, length-map w shown_byte))

module _ {l : List ℕ} {at : ℕ} {m : List ℕ} {p : ℕ} where
  pub number_is : {n k : ℕ} → n ≡ k → Put l at (32 ∷ decimal n) m p → Put l at (32 ∷ decimal k) m p
  number_is e h = subst (λ (k : ℕ). Put l at (32 ∷ decimal k) m p) e h
