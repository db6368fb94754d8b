-- The first scene's answer decides for both.
use Rattle.bench_moves.specs.Laws.{lecturer_refused, lecturer_done}
use Rattle.bench_moves.proofs.Bench.lecturer_move.Goals as goal

pub returns-in-Err : goal.returns-in-Err
returns-in-Err c =
    lecturer_refused _ _ _ c.session.ensures c.fixture_move-a.ensures c.in-Err.is

pub returns-in-Ok : goal.returns-in-Ok
returns-in-Ok c =
    lecturer_done _ _ _ c.session.ensures c.fixture_move-a.ensures
    c.session-2.ensures c.fixture_move-b.ensures c.in-Ok.is
