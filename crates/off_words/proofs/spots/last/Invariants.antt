-- The rest of the text ends where the text does.
use Prim.Native.Nat.{◌+◌, ◌≤◌}
use mathlib.Core.Path.{◌≡◌}
use lib.ListN.{drop}
use Rattle.off_words.specs.Spots.{line_after, column_after}
use Rattle.off_words.proofs.spots.last.Given as goal

abbrev pub invariant-loop-c : goal.invariant-loop-c
invariant-loop-c l =
    (line_after l.line (drop l.c-index l.text) ≡ line_after 1 l.text) × (column_after l.column (drop l.c-index l.text) ≡ column_after 1 l.text)
    × (l.line ≤ l.c-index + 1) × (l.column ≤ l.c-index + 1)
