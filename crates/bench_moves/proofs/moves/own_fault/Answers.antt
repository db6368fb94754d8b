-- Each test that fails decides.
use mathlib.Core.Path.{sym, ap}
use Rattle.std.specs.Prelude.{Option}
use Rattle.bench_moves.specs.Bench.{own_fault}
use Rattle.bench_moves.specs.Laws.{own_by, faults}
use Rattle.bench_moves.specs.declared.moves.Solids.{Solids}
use Rattle.bench_moves.proofs.moves.own_fault.Goals as goal

pub returns-in_default : goal.returns-in_default
unfolding own_fault
returns-in_default c = sym (ap (λ (k : Option Solids). own_fault k c.args.p) c.in_default.is)

pub returns-then-not-is_within : goal.returns-then-not-is_within
returns-then-not-is_within c = own_by _ c.in-Some.is c.from.ensures c.from-own.ensures (search faults depth 16)

pub returns-then-not-is_within-2 : goal.returns-then-not-is_within-2
returns-then-not-is_within-2 c = own_by _ c.in-Some.is c.from.ensures c.from-own.ensures (search faults depth 16)

pub returns : goal.returns
returns c = own_by _ c.in-Some.is c.from.ensures c.from-own.ensures (search faults depth 16)
