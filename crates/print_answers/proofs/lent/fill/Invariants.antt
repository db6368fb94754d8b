-- The first i places are filled.
use mathlib.Core.Path.{◌≡◌}
use lib.ListN.{take}
use Rattle.print_answers.specs.Lent.{filled}
use Rattle.print_answers.proofs.lent.fill.Given as goal

abbrev pub invariant-loop-i : goal.invariant-loop-i
invariant-loop-i l = take l.i l.l ≡ filled l.i
