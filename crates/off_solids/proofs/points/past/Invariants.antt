-- One item a turn.
use Prim.Native.Nat.{◌≤◌}
use mathlib.Core.Path.{◌≡◌}
use lib.ListN.{length}
use Rattle.off_solids.specs.Solid.{past}
use Rattle.off_solids.proofs.points.past.Given as goal

abbrev pub invariant-loop : goal.invariant-loop
invariant-loop l = (l.e ≡ past l.text l.at l.counter) × (l.e ≤ length l.text)
