-- A text of words, each with one byte behind it that separates, and how the items of a text find them again. Assumes nothing.
use Rattle.std.specs.Prelude.{ℕ, zero, suc, ◌+◌, ◌<◌, ◌≤◌, ◌≡◌, refl, true, false, ℤ, pos, negsuc, length, take, drop}
use Rattle.std.proofs.Common.{sym, ap, ap₂, ◌∙◌, subst, arith, ne_eqb, length-drop, drop-drop}
use mathlib.Core.List.{List, [], ◌∷◌, ◌++◌, map, flat_map, append_assoc}
use Rattle.std.proofs.Math.Seq.{slice, take-nil, take-append_seam, drop-append_seam}
use Rattle.laws.specs.Lists.{Each, each_map}
use Rattle.print.specs.Text.{decimal, signed_decimal, line, text}
use Rattle.print.specs.Decimal.{decimal_digits, decimal_some}
use Rattle.off_items.specs.Items.{separates, begins, comments, gap, word, start_of, word_end, end_of}

-- ---- words and blanks

abbrev pub Word : Type 0
Word = List ℕ

pub record OneWord (w : Word) : Type 0 where
  pub some : 0 < length w
  pub bare : Each (λ (c : ℕ). separates c ≡ false) w

pub record Blank (c : ℕ) : Type 0 where
  pub parts : separates c ≡ true
  pub plain : comments false c ≡ false

pub data Tells : List ℕ → List Word → Type 0 where
  none : Tells [] []
  more : {w : Word} {c : ℕ} {t : List ℕ} {ws : List Word} → OneWord w → Blank c → Tells t ws → Tells (w ++ (c ∷ t)) (w ∷ ws)

-- behind a word
pub data Rest : List ℕ → List Word → Type 0 where
  behind : {c : ℕ} {t : List ℕ} {ws : List Word} → Blank c → Tells t ws → Rest (c ∷ t) ws

pub a_space_law : Blank 32
unfolding separates comments
a_space_law = record { parts = refl; plain = refl }

pub a_newline : Blank 10
unfolding separates comments
a_newline = record { parts = refl; plain = refl }

not_blank : (c : ℕ) → 36 ≤ c → separates c ≡ false
unfolding separates
not_blank c h = rw (ne_eqb c 32 (λ e. omega arith), ne_eqb c 10 (λ e. omega arith), ne_eqb c 35 (λ e. omega arith))

pub decimal_worded : (n : ℕ) → OneWord (decimal n)
decimal_worded n =
    record { some = decimal_some n; bare = each_map (λ c h. not_blank c (omega (arith, h.least))) (decimal n) (decimal_digits n) }

pub signed_worded : (z : ℤ) → OneWord (signed_decimal z)
unfolding signed_decimal
signed_worded (pos n) = decimal_worded n
signed_worded (negsuc k) = record { some = omega arith; bare = (not_blank 45 (omega arith), (decimal_worded (suc k)).bare) }

-- ---- lines

pub record Line (l : List Word) : Type 0 where
  pub first : Word
  pub others : List Word
  pub is : l ≡ first ∷ others
  pub worded : Each OneWord l

line_tells : (w : Word) (ws : List Word) → Each OneWord (w ∷ ws) → {t : List ℕ} {us : List Word} → Tells t us →
    Tells (line (w ∷ ws) ++ t) ((w ∷ ws) ++ us)
line_tells w [] h {t} {us} x = subst (λ (l : List ℕ). Tells l (w ∷ us)) (sym (append_assoc w (10 ∷ []) t)) (more h.0 a_newline x)
line_tells w (v ∷ vs) h {t} {us} x =
    subst (λ (l : List ℕ). Tells l (w ∷ (v ∷ vs) ++ us)) (sym (append_assoc w (32 ∷ line (v ∷ vs)) t))
    (more h.0 a_space_law (line_tells v vs h.1 x))

pub lines_tell : (l : List Word) → Line l → {t : List ℕ} {us : List Word} → Tells t us → Tells (line l ++ t) (l ++ us)
lines_tell l h {t} {us} x =
    subst (λ (l : List Word). Tells (line l ++ t) (l ++ us)) (sym h.is)
    (line_tells h.first h.others (subst (Each OneWord) h.is h.worded) x)

pub text_tells : {A : Type 0} (f : A → List Word) → ((x : A) → Line (f x)) → (xs : List A) {t : List ℕ} {us : List Word} → Tells t us →
    Tells (text (map f xs) ++ t) (flat_map f xs ++ us)
unfolding text flat_map
text_tells f h [] x = x
text_tells f h (y ∷ ys) {t} {us} x =
    subst (λ (l : List ℕ). Tells l ((f y ++ flat_map f ys) ++ us)) (sym (append_assoc (line (f y)) (text (map f ys)) t))
    (subst (λ (ws : List Word). Tells (line (f y) ++ (text (map f ys) ++ t)) ws) (sym (append_assoc (f y) (flat_map f ys) us))
    (lines_tell (f y) (h y) (text_tells f h ys x)))

-- ---- the items of such a text

gap_blank : (c : ℕ) (t : List ℕ) → Blank c → gap false (c ∷ t) ≡ suc (gap false t)
unfolding gap begins
gap_blank c t h = rw (h.parts, h.plain)

gap_end : gap false [] ≡ 0
unfolding gap
gap_end = refl

gap_word : (c : ℕ) (t : List ℕ) → separates c ≡ false → gap false (c ∷ t) ≡ 0
unfolding gap begins
gap_word c t h = rw h

gap_none : (w : Word) → OneWord w → (t : List ℕ) → gap false (w ++ t) ≡ 0
gap_none [] h t = absurd (omega (arith, h.some))
gap_none (c ∷ w) h t = gap_word c (w ++ t) h.bare.0

word_length : (w : Word) → Each (λ (c : ℕ). separates c ≡ false) w → (c : ℕ) (t : List ℕ) → separates c ≡ true →
    word (w ++ (c ∷ t)) ≡ length w
unfolding word
word_length [] h c t e = rw e
word_length (b ∷ w) h c t e = rw (h.0, word_length w h.1 c t e)

-- the first item from `at` on is the word w
pub record Item (s : List ℕ) (at : ℕ) (w : Word) (ws : List Word) : Type 0 where
  pub spelt : slice (start_of s at) (end_of s at) s ≡ w
  pub rest : Rest (drop (end_of s at) s) ws

drop_take : (i n : ℕ) (s : List ℕ) → drop i (take (i + n) s) ≡ take n (drop i s)
drop_take zero n s = let e : 0 + n ≡ n = omega arith in ap (λ (k : ℕ). take k s) e
drop_take (suc i) n [] = ap (drop (suc i)) (take-nil {A = ℕ} (suc i + n)) ∙ sym (take-nil {A = ℕ} n)
drop_take (suc i) n (x ∷ s) =
    let e : suc i + n ≡ suc (i + n) = omega arith in ap (λ (k : ℕ). drop (suc i) (take k (x ∷ s))) e ∙ drop_take i n s

pub next_item : (s : List ℕ) (at : ℕ) (w : Word) (ws : List Word) → Rest (drop at s) (w ∷ ws) → Item s at w ws
unfolding start_of word_end
next_item s at w ws x = by refl x
  where
    spelled : (i : ℕ) (c : ℕ) (t : List ℕ) → OneWord w → Blank c → Tells t ws → drop i s ≡ w ++ (c ∷ t) → start_of s at ≡ i → Item s at w ws
    spelled i c t ww bc x e p =
        let long : end_of s at ≡ i + length w =
        ap (word_end s) p ∙ ap (λ (l : List ℕ). i + word l) e ∙ ap (λ (n : ℕ). i + n) (word_length w ww.bare c t bc.parts) in
        let tail : drop (end_of s at) s ≡ c ∷ t =
        ap (λ (n : ℕ). drop n s) long ∙ sym (drop-drop (length w) i s) ∙ ap (drop (length w)) e ∙ drop-append_seam w (c ∷ t) in
        record {
          spelt =
              ap₂ (λ (a b : ℕ). slice a b s) p long ∙ drop_take i (length w) s ∙ ap (take (length w)) e ∙ take-append_seam w (c ∷ t);
          rest = subst (λ (l : List ℕ). Rest l ws) (sym tail) (behind bc x);
        }

    by : {l : List ℕ} → drop at s ≡ l → Rest l (w ∷ ws) → Item s at w ws
    by e (behind {c} bc (more {c = d} {t = t} ww bd x)) =
        let g : gap false (drop at s) ≡ 1 = ap (gap false) e ∙ gap_blank c (w ++ (d ∷ t)) bc ∙ ap suc (gap_none w ww (d ∷ t)) in
        spelled (at + 1) d t ww bd x (sym (drop-drop 1 at s) ∙ ap (drop 1) e) (ap (λ (n : ℕ). at + n) g)

-- none is left behind the last word
pub last_item : (s : List ℕ) (at : ℕ) → Rest (drop at s) [] → start_of s at ≡ length s
unfolding start_of
last_item s at x = by refl x
  where
    by : {l : List ℕ} → drop at s ≡ l → Rest l [] → at + gap false (drop at s) ≡ length s
    by e (behind {c} bc none) =
        let g : gap false (drop at s) ≡ 1 = ap (gap false) e ∙ gap_blank c [] bc ∙ ap suc gap_end in
        omega (arith, g, ap length e, length-drop at s)
