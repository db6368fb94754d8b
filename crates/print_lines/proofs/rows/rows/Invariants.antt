-- So many rows stand, and those that are left fit as they would.
use Prim.Native.Nat.{◌≤◌, ◌/◌, min}
use mathlib.Core.Path.{◌≡◌}
use lib.ListN.{length}
use Rattle.print_lines.specs.Rows.{rows_in, Rendered}
use Rattle.print_lines.proofs.rows.rows.Given as goal

abbrev pub invariant-loop-i : goal.invariant-loop-i
invariant-loop-i l =
    (l.at ≤ length l.initial.out) × (l.m ≡ min l.n (length l.list / 3)) × (length l.out ≡ length l.initial.out) × Rendered (rows_in l.list l.n) l.initial.out l.at l.i l.out l.p
