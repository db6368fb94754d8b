use mathlib.Core.Path.{sym, ap}
use Rattle.bench_moves.specs.Bench.{placed}
use Rattle.bench_moves.specs.Laws.{placed_not}
use Rattle.bench_moves.proofs.moves.placed.Goals as goal

pub returns-in-Coordinate : goal.returns-in-Coordinate
unfolding placed
returns-in-Coordinate c = sym (ap (placed _) c.in-Coordinate.is)

pub returns-in-Weight : goal.returns-in-Weight
unfolding placed
returns-in-Weight c = sym (ap (placed _) c.in-Weight.is)

pub returns-in-FarAllZero : goal.returns-in-FarAllZero
unfolding placed
returns-in-FarAllZero c = sym (ap (placed _) c.in-FarAllZero.is)

pub returns-in_default : goal.returns-in_default
returns-in_default c = placed_not _ _ c.in_default.not-Coordinate c.in_default.not-Weight c.in_default.not-FarAllZero
