-- The move in the group's own session.
use Rattle.bench_moves.specs.Laws.{group_moved}
use Rattle.bench_moves.proofs.Bench.group_move.Goals as goal

pub returns : goal.returns
returns c =
    group_moved _ _ _ _ c.session.ensures c.own_move-m.ensures c.with.ensures
