-- What is counted and what is left are as many as the number has.
use Prim.Native.Nat.{◌+◌, ◌≤◌}
use mathlib.Core.Path.{◌≡◌}
use lib.ListN.{length}
use Rattle.print.specs.Text.{decimal}
use Rattle.print.proofs.places.Given as goal

abbrev pub invariant-loop-left : goal.invariant-loop-left
invariant-loop-left l = (l.k + length (decimal l.left) ≡ 1 + length (decimal l.n)) × (l.k + l.left ≤ l.n + 1)

abbrev pub decreases-loop-left : goal.decreases-loop-left
decreases-loop-left l = l.left
