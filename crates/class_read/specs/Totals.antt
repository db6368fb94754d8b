-- The numbers of class reports end to end, read byte by byte by a form and added up, each held to the largest of 64 bits. Assumes nothing.
use Rattle.std.specs.Prelude.{Bool, true, false, not, cond, ◌&&◌, List, [], ◌∷◌, ◌++◌, ℕ, suc, ◌+◌, ◌*◌, ◌-◌, eqb, leb, ltb, length, get_or, set}
use Prim.Native.String.{String}
use Rattle.print.specs.Text.{ascii}
use Rattle.scene.specs.Bytes.{byte_at}
use Rattle.off_items.specs.Numbers.{is_digit, largest, at_most}
use Rattle.class_read.specs.declared.Reading.{Reading}

-- ---- a form: bytes that stand in the text as they are; `@`, 64, for a number's first digit, and behind it a letter, 65 to 90, for the
-- digits that follow; and `|`, 124, where a report ends

unfoldable pub is_letter : ℕ → Bool
is_letter c = leb 65 c && leb c 90

abbrev line : String → List ℕ
line s = ascii s ++ (10 ∷ [])

-- a class report's lines, its numbers lettered by their totals; and the line of a refused block
unfoldable pub reports : List ℕ
reports =
    line "scenes @A"
    ++ (line "cross @B"
    ++ (line "a-in-b @C"
    ++ (line "b-in-a @D"
    ++ (line "apart @E"
    ++ (line "refused 1 @F"
    ++ (line "refused 2 @G"
    ++ (line "refused 3 @H"
    ++ (line "refused 4 @I"
    ++ (line "refused 5 @J"
    ++ (line "refused 6 @K"
    ++ (line "refused 7 @L"
    ++ (line "refused 8 @M"
    ++ (line "refused 9 @N"
    ++ (line "refused 14 @O"
    ++ (line "mean @W @P @Q"
    ++ (124 ∷ line "refused 23 0" ++ (124 ∷ [])))))))))))))))))

-- ---- what the byte b makes of what is known, where the form has c

abbrev pub held : ℕ → ℕ
held n = at_most largest n

-- the digit b behind those of n
unfoldable pub grown : ℕ → ℕ → ℕ
grown n b = held (held (n * 10) + (b - 48))

-- before a number stands no digit
unfoldable pub number_of : (n b : ℕ) → ℕ
number_of n b = cond (is_digit b) (grown n b) 0

-- a number ends before the first byte that is no digit
unfoldable pub ends : (c b : ℕ) → Bool
ends c b = cond (is_letter c) (not (is_digit b)) false

-- `W`, 87, is the mean's whole part
unfoldable pub whole_of : (c b n w : ℕ) → ℕ
whole_of c b n w = cond (ends c b) (cond (eqb c 87) n w) w

unfoldable pub plus : List ℕ → (k n : ℕ) → List ℕ
plus totals k n = set totals k (held (get_or totals k 0 + n))

-- `Q`, 81, is the divisor: the pairs, total 15, are the remainder and the whole part times the divisor
unfoldable pub paired : List ℕ → (c n w : ℕ) → List ℕ
paired totals c n w = cond (eqb c 81) (plus totals 15 (held (w * n))) totals

-- the number of the letter c goes to total c - 65
unfoldable pub counted_of : List ℕ → (c b n w : ℕ) → List ℕ
counted_of totals c b n w = cond (ends c b) (paired (plus totals (c - 65) n) c n w) totals

-- ---- where the byte b leads from a place of the form; nowhere, the form's end, where it does not fit

abbrev pub turned : List ℕ → ℕ → ℕ
turned form p = cond (eqb (byte_at form p) 124) 0 p

unfoldable pub met_at : List ℕ → (at b : ℕ) → ℕ
met_at form at b = cond (ltb at (length form)) (cond (eqb (byte_at form at) b) (turned form (at + 1)) (length form)) (length form)

unfoldable pub first_at : List ℕ → (at b : ℕ) → ℕ
first_at form at b = cond (is_digit b) (at + 1) (length form)

unfoldable pub more_at : List ℕ → (at b : ℕ) → ℕ
more_at form at b = cond (is_digit b) at (met_at form (at + 1) b)

unfoldable pub onward : List ℕ → (at b : ℕ) → ℕ
onward form at b =
    cond (ltb at (length form))
    (cond (eqb (byte_at form at) 64) (first_at form at b) (cond (is_letter (byte_at form at)) (more_at form at b) (met_at form at b)))
    (length form)

-- the line of a refused block, which alone begins with an r, 114, stands behind the others
abbrev pub refused : ℕ
refused = 194

unfoldable pub begins : (at b : ℕ) → Bool
begins at b = cond (eqb at 0) (eqb b 114) false

unfoldable pub start_of : (at b : ℕ) → ℕ
start_of at b = cond (begins at b) refused at

-- one report more where the byte led to the start of the form
unfoldable pub finished : (at n : ℕ) → ℕ
finished at n = cond (eqb at 0) (held (n + 1)) n

-- ---- one byte more, and a text, as far as it fits

abbrev pub next_at : List ℕ → Reading → (at b : ℕ) → Reading
next_at form r at b =
    record {
      at = onward form at b;
      number = number_of r.number b;
      whole = whole_of (byte_at form at) b r.number r.whole;
      totals = counted_of r.totals (byte_at form at) b r.number r.whole;
      longer = cond (begins r.at b) true r.longer;
      reports = finished (onward form at b) r.reports;
    }

unfoldable pub next_of : List ℕ → Reading → ℕ → Reading
next_of form r b = next_at form r (start_of r.at b) b

unfoldable pub read_of : List ℕ → Reading → List ℕ → Reading
read_of form r [] = r
read_of form r (b ∷ t) = cond (leb (length form) r.at) r (read_of form (next_of form r b) t)

-- how many bytes of the text are read, the one that does not fit among them
unfoldable pub end_of : List ℕ → Reading → List ℕ → ℕ
end_of form r [] = 0
end_of form r (b ∷ t) = cond (leb (length form) r.at) 0 (suc (end_of form (next_of form r b) t))
