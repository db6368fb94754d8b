-- The rest of the places decides like all of them.
use mathlib.Core.Path.{◌≡◌}
use lib.ListN.{length}
use Rattle.laws.specs.Range.{any_of}
use Rattle.print_answers.specs.Lent.{is_touched, are_touched}
use Rattle.print_answers.proofs.lent.are_touched.Given as goal

abbrev pub invariant-loop-i : goal.invariant-loop-i
invariant-loop-i l = any_of (is_touched l.l) l.i (length l.l) ≡ are_touched l.l l.from
