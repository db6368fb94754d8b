-- The first fault of the rest is the first of the whole.
use Prim.Native.Nat.{◌+◌}
use mathlib.Core.Path.{◌≡◌}
use Rattle.judge.specs.Judge.{first_fault, unused_fault, unuseds_fault}
use Rattle.judge.proofs.closed.unuseds_fault.Given as goal

abbrev pub invariant-loop-p : goal.invariant-loop-p
invariant-loop-p l = first_fault (unused_fault l.s) l.p (l.n + 1) ≡ unuseds_fault l.s
