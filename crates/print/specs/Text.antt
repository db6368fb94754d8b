-- Texts as lists of byte values: a number in decimal, a line of words, a text of lines. Assumes nothing.
use Rattle.std.specs.Prelude.{ℕ, zero, suc, ◌+◌, ◌/◌, ◌%◌, cond, ◌≡◌, refl, List, [], ◌∷◌, ◌++◌, ltb, ℤ, pos, negsuc}
use Prim.Native.Char.{code}
use Prim.Native.String.{String, [] as nothing, ◌∷◌ as ◌and◌}

-- the bytes of a text of ASCII
abbrev pub ascii : String → List ℕ
ascii nothing = []
ascii (c and s) = code c ∷ ascii s

-- `0` is 48, and the others follow
abbrev pub digit : ℕ → ℕ
digit d = 48 + d

-- the digits of n, the most significant first, with no zero in front; k counts the steps that are left, and n are enough
unfoldable pub decimal_in : (k n : ℕ) → List ℕ
decimal_in zero n = digit (n % 10) ∷ []
decimal_in (suc k) n = cond (ltb n 10) (digit n ∷ []) (decimal_in k (n / 10) ++ (digit (n % 10) ∷ []))

unfoldable pub decimal : ℕ → List ℕ
decimal n = decimal_in n n

-- a minus sign, 45, before the size of a negative number
unfoldable pub signed_decimal : ℤ → List ℕ
signed_decimal (pos n) = decimal n
signed_decimal (negsuc k) = 45 ∷ decimal (suc k)

-- words with a space, 32, before each but the first, and a newline, 10, behind the last
abbrev pub ending : List (List ℕ) → List ℕ
ending [] = 10 ∷ []
ending (w ∷ ws) = 32 ∷ w ++ ending ws

abbrev pub line : List (List ℕ) → List ℕ
line [] = 10 ∷ []
line (w ∷ ws) = w ++ ending ws

unfoldable pub text : List (List (List ℕ)) → List ℕ
text [] = []
text (l ∷ ls) = line l ++ text ls

-- as people write them
written_zero : decimal 0 ≡ ascii "0"
unfolding decimal decimal_in
written_zero = refl

written_tens : decimal 1100 ≡ ascii "1100"
unfolding decimal decimal_in
written_tens = refl

written_minus : signed_decimal (negsuc 359) ≡ ascii "-360"
unfolding signed_decimal decimal decimal_in
written_minus = refl

written_line : line (ascii "pairs" ∷ decimal 3 ∷ []) ≡ ascii "pairs 3\n"
unfolding decimal decimal_in
written_line = refl
