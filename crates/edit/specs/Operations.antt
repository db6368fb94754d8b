-- What the words of an operation denote: `move P X Y Z W`, `far X Y Z W`, `reverse F`. Assumes nothing.
use Rattle.std.specs.Prelude.{ℕ, ◌+◌, Bool, true, false, cond, ◌&&◌, List, [], ◌∷◌, eqb, ℤ, pos, negsuc, Option, Some, None, Result, Ok, Err}
use Rattle.print.specs.Text.{ascii}
use Rattle.scene.specs.declared.Row.{Row}
use Rattle.edit.specs.declared.operations.Operation.{Operation}
use Rattle.edit.specs.declared.operations.Operation.TheVariants as operation
use Rattle.edit.specs.declared.operations.Wrong.{Wrong}

unfoldable pub same : List ℕ → List ℕ → Bool
same [] [] = true
same [] (b ∷ t) = false
same (a ∷ s) [] = false
same (a ∷ s) (b ∷ t) = eqb a b && same s t

-- a number below 0 is nobody's, as 0 is
abbrev pub named : ℤ → ℕ
named (pos n) = n
named (negsuc n) = 0

-- the word that is wrong
abbrev pub wrong : {T : Type 0} → ℕ → Result T Wrong
wrong k = Err (record { word = k })

-- four numbers, the first of them word i; or the first word that is none
unfoldable pub row_of : ℕ → (x y z w : Option ℤ) → Result Row Wrong
row_of i None y z w = wrong i
row_of i (Some x) None z w = wrong (i + 1)
row_of i (Some x) (Some y) None w = wrong (i + 2)
row_of i (Some x) (Some y) (Some z) None = wrong (i + 3)
row_of i (Some x) (Some y) (Some z) (Some w) = Ok (record { x = x; y = y; z = z; w = w })

-- each behind its name, which is word i

unfoldable pub move_by : ℕ → Option ℤ → Result Row Wrong → Result Operation Wrong
move_by i None v = wrong (i + 1)
move_by i (Some p) (Err e) = Err e
move_by i (Some p) (Ok v) = Ok (operation.Move (named p) v)

abbrev pub move_of : ℕ → (p x y z w : Option ℤ) → Result Operation Wrong
move_of i p x y z w = move_by i p (row_of (i + 2) x y z w)

unfoldable pub far_by : Result Row Wrong → Result Operation Wrong
far_by (Err e) = Err e
far_by (Ok v) = Ok (operation.Far v)

abbrev pub far_of : ℕ → (x y z w : Option ℤ) → Result Operation Wrong
far_of i x y z w = far_by (row_of (i + 1) x y z w)

unfoldable pub reverse_of : ℕ → Option ℤ → Result Operation Wrong
reverse_of i None = wrong (i + 1)
reverse_of i (Some f) = Ok (operation.Reverse (named f))

-- a to e are the five words behind the name
unfoldable pub operation_of : ℕ → List ℕ → (a b c d e : Option ℤ) → Result Operation Wrong
operation_of i name a b c d e =
    cond (same name (ascii "move")) (move_of i a b c d e)
    (cond (same name (ascii "far")) (far_of i a b c d)
    (cond (same name (ascii "reverse")) (reverse_of i a) (wrong i)))

-- how many words it takes, its name among them
abbrev pub words_of : Operation → ℕ
words_of (operation.Move p v) = 6
words_of (operation.Far v) = 5
words_of (operation.Reverse f) = 2
