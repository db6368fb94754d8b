-- An item of a text, as it is shown: its first 24 bytes, with a question mark for each that a terminal may not print, and three dots for
-- the others. Assumes nothing.
use Rattle.std.specs.Prelude.{ℕ, zero, suc, ◌+◌, ◌≤◌, ◌<◌, ◌≡◌, refl, cond, ◌&&◌, List, [], ◌∷◌, ◌++◌, map, leb, length, take, get_or}
use Rattle.std.proofs.Common.{sym, ◌∙◌, subst}
use native.Mathlib.Omega.{arith}
use borrow.Author.Tests.{le-leb, lt-leb}
use Rattle.std.proofs.lemmas.List.{length-map}
use Rattle.print.specs.Put.{Put}
use Rattle.print.specs.Text.{ascii}
use Rattle.print.specs.Loops.{word_more, word_all}

-- from ! to ~, and else ?
unfoldable pub shown_byte : ℕ → ℕ
shown_byte c = cond (leb 33 c && leb c 126) c 63

unfoldable pub shown : List ℕ → List ℕ
shown w = cond (leb (length w) 24) (map shown_byte w) (map shown_byte (take 24 w) ++ ascii "...")

written : shown (ascii "10.0\t1") ≡ ascii "10.0?1"
unfolding shown shown_byte
written = refl

-- ---- what a branch says of a byte

module _ (c : ℕ) where
  pub shown_below : c < 33 → 63 ≡ shown_byte c
  unfolding shown_byte
  shown_below h = rw (lt-leb 33 c h)

  pub shown_plain : 33 ≤ c → c < 127 → c ≡ shown_byte c
  unfolding shown_byte
  shown_plain h i = let j : c ≤ 126 = omega arith in rw (le-leb 33 c h, le-leb c 126 j)

  pub shown_above : 33 ≤ c → 127 ≤ c → 63 ≡ shown_byte c
  unfolding shown_byte
  shown_above h i = let j : 126 < c = omega arith in rw (le-leb 33 c h, lt-leb c 126 j)

-- ---- a loop's turn: one more byte is put as it is shown

shown_at : (w : List ℕ) (i : ℕ) → i < length w → get_or (map shown_byte w) i 0 ≡ shown_byte (get_or w i 0)
shown_at [] i h = absurd (omega arith)
shown_at (b ∷ w) zero h = refl
shown_at (b ∷ w) (suc i) h = shown_at w i (omega arith)

module _ {l : List ℕ} {at : ℕ} (w : List ℕ) (i : ℕ) {m : List ℕ} {p : ℕ} (so_far : Put l at (take i (map shown_byte w)) m p) where
  pub shown_more : i < length w → {b : ℕ} → b ≡ shown_byte (get_or w i 0) → {n : List ℕ} {q : ℕ} → Put m p (b ∷ []) n q →
      Put l at (take (i + 1) (map shown_byte w)) n q
  shown_more h e {n} {q} x =
      word_more (map shown_byte w) i so_far (omega (arith, length-map w shown_byte))
      (subst (λ (k : ℕ). Put m p (k ∷ []) n q) (e ∙ sym (shown_at w i h)) x)

  pub shown_all : length w ≤ i → Put l at (map shown_byte w) m p
  shown_all h = word_all (map shown_byte w) i so_far (omega (arith, length-map w shown_byte))

-- ---- the whole, short or cut

module _ {l : List ℕ} {at : ℕ} {m : List ℕ} {p : ℕ} (w : List ℕ) where
  pub shown_short : length w ≤ 24 → Put l at (map shown_byte w) m p → Put l at (shown w) m p
  unfolding shown
  shown_short h x = rw (le-leb (length w) 24 h) x

  pub shown_long : 24 < length w → Put l at (map shown_byte (take 24 w) ++ ascii "...") m p → Put l at (shown w) m p
  unfolding shown
  shown_long h x = rw (lt-leb (length w) 24 h) x
