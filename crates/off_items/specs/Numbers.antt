-- Decimal whole numbers of any length, as items of a text tell them. Assumes nothing.
use Rattle.std.specs.Prelude.{ℕ, zero, suc, ◌+◌, ◌*◌, ◌-◌, List, [], ◌∷◌, Bool, true, false, cond, ◌&&◌, ℤ, pos, negsuc, eqb, leb, ltb}
use Rattle.std.proofs.Math.Seq.{slice}
use Rattle.scene.specs.Bytes.{byte_at}
use Rattle.off_items.specs.Items.{start_of, end_of}

unfoldable pub is_digit : ℕ → Bool
is_digit c = leb 48 c && leb c 57

unfoldable pub digits : List ℕ → Bool
digits [] = true
digits (c ∷ w) = is_digit c && digits w

-- the number that digits tell behind those that told n
unfoldable pub value : ℕ → List ℕ → ℕ
value n [] = n
value n (c ∷ w) = value (10 * n + (c - 48)) w

-- a minus sign stands at i, where there may be one; and where the digits of the item that starts at i start
unfoldable pub minus_at : Bool → List ℕ → ℕ → Bool
minus_at signed s i = signed && eqb (byte_at s i) 45

unfoldable pub body_of : Bool → List ℕ → ℕ → ℕ
body_of signed s i = cond (minus_at signed s i) (i + 1) i

-- the bytes from i up to e are a whole number, and its size
unfoldable pub is_whole : Bool → List ℕ → ℕ → ℕ → Bool
is_whole signed s i e = ltb (body_of signed s i) e && digits (slice (body_of signed s i) e s)

unfoldable pub size_of : Bool → List ℕ → ℕ → ℕ → ℕ
size_of signed s i e = value 0 (slice (body_of signed s i) e s)

-- ---- of the first item from `at` on

abbrev pub whole_from : Bool → List ℕ → ℕ → Bool
whole_from signed s at = is_whole signed s (start_of s at) (end_of s at)

abbrev pub size_from : Bool → List ℕ → ℕ → ℕ
size_from signed s at = size_of signed s (start_of s at) (end_of s at)

-- the number of this size, below zero or not
abbrev pub made : Bool → ℕ → ℤ
made false n = pos n
made true zero = pos 0
made true (suc n) = negsuc n

abbrev pub number_from : List ℕ → ℕ → ℤ
number_from s at = made (minus_at true s (start_of s at)) (size_from true s at)

-- ---- in the machine: a number above the largest of 64 bits is told as that

abbrev pub largest : ℕ
largest = 18446744073709551615

-- n, or m where n is above it
unfoldable pub at_most : ℕ → ℕ → ℕ
at_most m n = cond (leb n m) n m
