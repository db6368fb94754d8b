-- The items of a text, which is a list of bytes: an item is a longest run of bytes other than space, newline and #, and a # starts a
-- comment to the line's end. Assumes nothing.
use Rattle.std.specs.Prelude.{ℕ, zero, suc, ◌+◌, List, [], ◌∷◌, Bool, false, not, cond, ◌&&◌, ◌||◌, drop, eqb}

abbrev pub newline : ℕ
newline = 10

abbrev pub space : ℕ
space = 32

abbrev pub hash : ℕ
hash = 35

-- c is no byte of an item
unfoldable pub separates : ℕ → Bool
separates c = eqb c space || (eqb c newline || eqb c hash)

-- c, inside a comment or not, is the first byte of an item; and whether what follows it is inside a comment
unfoldable pub begins : Bool → ℕ → Bool
begins comment c = not comment && not (separates c)

unfoldable pub comments : Bool → ℕ → Bool
comments comment c = cond comment (not (eqb c newline)) (eqb c hash)

-- how many bytes come before the first item, all of them where there is none
unfoldable pub gap : Bool → List ℕ → ℕ
gap comment [] = 0
gap comment (c ∷ s) = cond (begins comment c) 0 (suc (gap (comments comment c) s))

-- how many bytes of an item come first
unfoldable pub word : List ℕ → ℕ
word [] = 0
word (c ∷ s) = cond (separates c) 0 (suc (word s))

-- the first byte of the first item from `at` on, the text's length where there is none; and the end of the item that starts there
unfoldable pub start_of : List ℕ → ℕ → ℕ
start_of s at = at + gap false (drop at s)

unfoldable pub word_end : List ℕ → ℕ → ℕ
word_end s start = start + word (drop start s)

abbrev pub end_of : List ℕ → ℕ → ℕ
end_of s at = word_end s (start_of s at)

-- the end of the text's first k items: item k (from 0) is the first from there on
abbrev pub after : List ℕ → ℕ → ℕ
after s zero = 0
after s (suc k) = end_of s (after s k)
