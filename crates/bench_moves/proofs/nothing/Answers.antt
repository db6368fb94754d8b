use Rattle.bench_moves.specs.Laws.{nothing_opened}
use Rattle.bench_moves.proofs.nothing.Goals as goal

pub returns : goal.returns
returns c = nothing_opened c.open-c.ensures
