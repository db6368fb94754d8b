-- The first fault of the rest is the first of the whole.
use mathlib.Core.Path.{◌≡◌}
use Rattle.judge.specs.Judge.{first_fault, edge_fault, edges_fault}
use Rattle.judge.proofs.closed.edges_fault.Given as goal

abbrev pub invariant-loop-i : goal.invariant-loop-i
invariant-loop-i l = first_fault (edge_fault l.s) l.i l.n ≡ edges_fault l.s
