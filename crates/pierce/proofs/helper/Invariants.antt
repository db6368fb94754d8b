-- The loop's invariant: the lowest from h on is the lowest of all.
use mathlib.Core.Path.{◌≡◌}
use Prim.Native.Nat.{◌+◌}
use Rattle.laws.specs.Range.{lowest_of}
use Rattle.pierce.specs.Formula.{can_help, helper}
use Rattle.pierce.proofs.helper.Given as goal

abbrev pub invariant-loop-h : goal.invariant-loop-h
invariant-loop-h l = lowest_of (can_help l.u l.v l.f) l.h (l.n + 1) ≡ helper l.n l.u l.v l.f
