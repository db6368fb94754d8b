-- The fault decides; else the session's move does.
use Rattle.bench_moves.specs.Laws.{own_refused, own_done}
use Rattle.bench_moves.proofs.moves.own_move.Goals as goal

pub returns-in-Err : goal.returns-in-Err
returns-in-Err c =
    own_refused _ _ _ c.solids_of.ensures c.own_fault.ensures c.in-Err.is

pub returns : goal.returns
returns c =
    own_done _ _ _ c.solids_of.ensures c.own_fault.ensures
    c.in_default.is c.move_vertex-c.ensures c.said.ensures
