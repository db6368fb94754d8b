-- A listing into lent places: they are filled before it, and afterwards its rows are shown, and whether it left the others alone.
-- Assumes nothing.
use Rattle.std.specs.Prelude.{ℕ, ◌-◌, ◌*◌, ◌/◌, ◌%◌, min, ◌≡◌, Bool, not, List, ◌++◌, eqb, length, get_or, take, drop, Ok, Err}
use Rattle.laws.specs.Lists.{run}
use Rattle.laws.specs.Range.{any_of}
use Rattle.questions.specs.Answers.{IsListed}
use Rattle.questions.specs.Types.{Listed}
use Rattle.print.specs.Text.{line, text}
use Rattle.print_lines.specs.Lines.{kept_line}
use Rattle.print_lines.specs.Rows.{rows_in, fitting}
use Rattle.print_answers.specs.Said.{listed_line}

-- what stands at place i: below 2^16, and seldom a listing's
abbrev pub pattern : ℕ → ℕ
pattern i = i % 65521

unfoldable pub filled : ℕ → List ℕ
filled n = run pattern 0 n

unfoldable pub is_touched : List ℕ → ℕ → Bool
is_touched l i = not (eqb (get_or l i 0) (pattern i))

unfoldable pub are_touched : List ℕ → ℕ → Bool
are_touched l from = any_of (is_touched l) from (length l)

-- after a listing into so many of the places d, or into all of them: it had those, and the others are as they were filled
pub record IsLent (s : List ℕ) (places : ℕ) (d d' : List ℕ) (r : Listed) : Type 0 where
  pub listed : IsListed s (take (min places (length d)) (filled (length d))) (take (min places (length d)) d') r
  pub rest : drop (min places (length d)) d' ≡ drop (min places (length d)) (filled (length d))

-- how many rows the places have
abbrev pub rows_of : Listed → ℕ
rows_of (Err r) = 0
rows_of (Ok n) = n

-- the text where so many bytes have room: the line, the rows that have room, and whether the places behind them were left alone
unfoldable pub lent_text : (room : ℕ) → Listed → List ℕ → List ℕ
lent_text room a l =
    line (listed_line a)
    ++ (text (fitting (room - length (line (listed_line a))) (rows_in l (rows_of a)))
    ++ line (kept_line (not (are_touched l (3 * min (rows_of a) (length l / 3))))))
