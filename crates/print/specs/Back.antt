-- A text reads back: from a text of lines of words, where no word holds a space or a newline, the lines and their words are found again.
-- Assumes nothing.
use Rattle.std.specs.Prelude.{ℕ, ◌≡◌, refl, ◌≢◌, cond, List, [], ◌∷◌, ◌++◌, eqb, ℤ, pos, negsuc}
use Rattle.std.proofs.Common.{sym, ap, ◌∙◌, append-nil, append_assoc, arith, ne_eqb}
use Rattle.laws.specs.Lists.{Each, each_map}
use Rattle.print.specs.Text.{decimal, signed_decimal, ending, line, text}
use Rattle.print.specs.Decimal.{decimal_digits}

abbrev pub Word : Type 0
Word = List ℕ

abbrev pub Words : Type 0
Words = List Word

-- ---- how a text is read, from its last byte on: what is read so far begins with the line and the word that the next byte belongs to

unfoldable pub a_word : ℕ → List Words → List Words
a_word b [] = ((b ∷ []) ∷ []) ∷ []
a_word b ([] ∷ ls) = ((b ∷ []) ∷ []) ∷ ls
a_word b ((w ∷ ws) ∷ ls) = ((b ∷ w) ∷ ws) ∷ ls

unfoldable pub a_space : List Words → List Words
a_space [] = ([] ∷ []) ∷ []
a_space (ws ∷ ls) = ([] ∷ ws) ∷ ls

unfoldable pub lines_in : List ℕ → List Words
lines_in [] = []
lines_in (b ∷ t) = cond (eqb b 10) (([] ∷ []) ∷ lines_in t) (cond (eqb b 32) (a_space (lines_in t)) (a_word b (lines_in t)))

-- ---- words that hold no space and no newline, and lines of one or more of them

pub record IsPlain (b : ℕ) : Type 0 where
  pub no_space : b ≢ 32
  pub no_newline : b ≢ 10

abbrev pub Plain : Word → Type 0
Plain w = Each IsPlain w

abbrev pub Line : Words → Type 0
Line [] = ⊥
Line (w ∷ ws) = Plain w × Each Plain ws

pub decimal_plain : (n : ℕ) → Plain (decimal n)
decimal_plain n =
    each_map (λ b h. record { no_space = omega (arith, h.least); no_newline = omega (arith, h.least) }) (decimal n) (decimal_digits n)

pub signed_plain : (z : ℤ) → Plain (signed_decimal z)
unfolding signed_decimal
signed_plain (pos n) = decimal_plain n
signed_plain (negsuc k) = (record { no_space = omega arith; no_newline = omega arith }, decimal_plain _)

-- ---- reading back

word_read : (w : Word) → Plain w → (t : List ℕ) {v : Word} {ws : Words} {ls : List Words} → lines_in t ≡ (v ∷ ws) ∷ ls →
    lines_in (w ++ t) ≡ ((w ++ v) ∷ ws) ∷ ls
unfolding lines_in a_word
word_read [] p t e = e
word_read (b ∷ w) p t e = rw (ne_eqb b 10 p.0.no_newline, ne_eqb b 32 p.0.no_space, word_read w p.1 t e)

front_read : (w : Word) (ws : Words) → Plain w → (t : List ℕ) → lines_in (ending ws ++ t) ≡ ([] ∷ ws) ∷ lines_in t →
    lines_in ((w ++ ending ws) ++ t) ≡ (w ∷ ws) ∷ lines_in t
front_read w ws p t e =
    ap lines_in (append_assoc w (ending ws) t) ∙ word_read w p (ending ws ++ t) e
    ∙ ap (λ (v : Word). (v ∷ ws) ∷ lines_in t) (append-nil w)

ending_read : (ws : Words) → Each Plain ws → (t : List ℕ) → lines_in (ending ws ++ t) ≡ ([] ∷ ws) ∷ lines_in t
unfolding lines_in a_space
ending_read [] p t = refl
ending_read (w ∷ ws) p t = ap a_space (front_read w ws p.0 t (ending_read ws p.1 t))

line_read : (l : Words) → Line l → (t : List ℕ) → lines_in (line l ++ t) ≡ l ∷ lines_in t
line_read [] p t = absurd p
line_read (w ∷ ws) p t = front_read w ws p.0 t (ending_read ws p.1 t)

pub lines_back : (ls : List Words) → Each Line ls → lines_in (text ls) ≡ ls
unfolding text lines_in
lines_back [] p = refl
lines_back (l ∷ ls) p = line_read l p.0 (text ls) ∙ ap (λ (m : List Words). l ∷ m) (lines_back ls p.1)

-- so two texts that are one have the same lines
pub text_once : (ls ms : List Words) → Each Line ls → Each Line ms → text ls ≡ text ms → ls ≡ ms
text_once ls ms p q e = sym (lines_back ls p) ∙ ap lines_in e ∙ lines_back ms q
