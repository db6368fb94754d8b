-- The rest says what all say.
use Prim.Native.Nat.{◌+◌, ◌-◌}
use mathlib.Core.Path.{◌≡◌}
use Rattle.laws.specs.Lists.{run}
use Rattle.scene.specs.Tables.{tables_of, row}
use Rattle.off_write.specs.Drawing.{weighted}
use Rattle.off_write.proofs.is_weighted.Given as goal

abbrev pub invariant-loop-i : goal.invariant-loop-i
invariant-loop-i l =
    (weighted (run (row (tables_of l.s)) (l.first + l.i) (l.n - l.i)) ≡ weighted (run (row (tables_of l.s)) l.first l.n))
