-- The number decides; else the session's move does, in the lecturer's number.
use Rattle.bench_moves.specs.Laws.{fixture_refused, fixture_moved}
use Rattle.bench_moves.proofs.moves.fixture_move.Goals as goal

pub returns-in-Err : goal.returns-in-Err
returns-in-Err c = fixture_refused _ _ _ c.solids_of.ensures c.number_fault.ensures c.in-Err.is

pub returns-in-Ok : goal.returns-in-Ok
returns-in-Ok c = fixture_moved _ _ _ c.solids_of.ensures c.number_fault.ensures c.in-Ok.is c.scene_move-c.ensures c.placed_in.ensures
