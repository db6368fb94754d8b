-- Each rule that fails decides.
use mathlib.Core.Path.{sym, ap}
use Rattle.std.specs.Prelude.{Option}
use Rattle.bench_moves.specs.Bench.{number_fault}
use Rattle.bench_moves.specs.Laws.{number_lacking, number_found}
use Rattle.bench_moves.specs.declared.moves.Solids.{Solids}
use Rattle.bench_moves.proofs.moves.number_fault.Goals as goal

pub returns-in_default : goal.returns-in_default
unfolding number_fault
returns-in_default c = sym (ap (λ (k : Option Solids). number_fault k c.args.n) c.in_default.is)

pub returns-then-not-is_within : goal.returns-then-not-is_within
returns-then-not-is_within c = number_lacking _ c.in-Some.is c.from.ensures c.is_within.ensures c.if-not-is_within.true

pub returns : goal.returns
returns c = number_found _ c.in-Some.is c.from.ensures c.is_within.ensures c.if-not-is_within.false
