use Rattle.std.specs.Prelude.{Err}
use mathlib.Core.Path.{sym, ap, ◌∙◌}
use Rattle.bench_moves.specs.Bench.{placed_in}
use Rattle.bench_moves.proofs.moves.placed_in.Goals as goal

pub returns-in-Ok : goal.returns-in-Ok
unfolding placed_in
returns-in-Ok c = sym (ap (placed_in _) c.in-Ok.is)

pub returns-in-Err : goal.returns-in-Err
unfolding placed_in
returns-in-Err c = ap Err c.placed.ensures ∙ sym (ap (placed_in _) c.in-Err.is)
