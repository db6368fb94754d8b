-- Sums that stop at the largest number of 64 bits. Assumes nothing.
use Rattle.std.specs.Prelude.{List, ℕ, ◌+◌, min, get_or, set}

abbrev pub largest : ℕ
largest = 18446744073709551615

abbrev pub sum_of : ℕ → ℕ → ℕ
sum_of x y = min (x + y) largest

-- one more in line k
unfoldable pub raised : List ℕ → ℕ → List ℕ
raised l k = set l k (sum_of (get_or l k 0) 1)

-- the scenes of the four verdicts
abbrev pub accepted_in : List ℕ → ℕ
accepted_in l = sum_of (sum_of (sum_of (get_or l 1 0) (get_or l 2 0)) (get_or l 3 0)) (get_or l 4 0)
