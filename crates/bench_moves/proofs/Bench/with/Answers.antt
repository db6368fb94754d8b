use mathlib.Core.Path.{sym, ap}
use Rattle.bench_moves.specs.Bench.{with_session}
use Rattle.bench_moves.specs.declared.Group.{Group}
use Rattle.bench_moves.proofs.Bench.with.Goals as goal

pub returns-in-One : goal.returns-in-One
returns-in-One c =
    ap (λ (g : Group). with_session c.args.self g c.args.s) (sym c.in-One.is)

pub returns-in-Two : goal.returns-in-Two
returns-in-Two c =
    ap (λ (g : Group). with_session c.args.self g c.args.s) (sym c.in-Two.is)
