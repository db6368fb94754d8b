-- The rest, from what is known here, ends as the whole does.
use mathlib.Core.Path.{◌≡◌}
use Prim.Native.Nat.{◌+◌}
use lib.ListN.{drop}
use Rattle.class_read.specs.Totals.{read_of, end_of}
use Rattle.class_read.proofs.feed.Given as goal

abbrev pub invariant-loop-i : goal.invariant-loop-i
invariant-loop-i l = (read_of l.form l.q (drop l.i l.text) ≡ read_of l.form l.initial.q l.text) × (l.i + end_of l.form l.q (drop l.i l.text) ≡ end_of l.form l.initial.q l.text)
