-- A word as a signed whole number: digits, any number of them, and a minus sign before them or not. Assumes nothing.
use Rattle.std.specs.Prelude.{ℕ, Bool, true, cond, List, ℤ, Option, Some, None, length}
use Rattle.off_items.specs.Numbers.{minus_at, is_whole, size_of, made, at_most}

-- what is larger in size is told as this
abbrev pub most : ℕ
most = 1000000000000000000

abbrev pub is_number : List ℕ → Bool
is_number w = is_whole true w 0 (length w)

abbrev pub number_in : List ℕ → ℤ
number_in w = made (minus_at true w 0) (at_most most (size_of true w 0 (length w)))

unfoldable pub number_of : List ℕ → Option ℤ
number_of w = cond (is_number w) (Some (number_in w)) None
