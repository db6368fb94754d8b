-- Each part passes at least one row, and no more than are left.
use Rattle.std.proofs.Common.{◌≤◌, ◌-◌}
use Rattle.report.proofs.write_rows.Given as goal

abbrev pub invariant-loop-from : goal.invariant-loop-from
invariant-loop-from l = l.from ≤ l.n

abbrev pub decreases-loop-from : goal.decreases-loop-from
decreases-loop-from l = l.n - l.from
