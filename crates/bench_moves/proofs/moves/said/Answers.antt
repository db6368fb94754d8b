use mathlib.Core.Path.{sym, ap}
use Rattle.laws.specs.Exits.{exits}
use Rattle.bench_moves.specs.Bench.{said, then_scene}
use Rattle.bench_moves.proofs.moves.said.Goals as goal

pub returns : goal.returns
unfolding said then_scene
returns c = sym (ap said c.in_ok-j.was)

pub returns-in_err-j : goal.returns-in_err-j
unfolding said then_scene
returns-in_err-j c = exits c.from_residual.ensures.1 (sym (ap said c.in_err-j.was))
