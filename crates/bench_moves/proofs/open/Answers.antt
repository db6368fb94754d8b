-- The fault decides; else both scenes are opened.
use Rattle.bench_moves.specs.Laws.{open_refused, open_done}
use Rattle.bench_moves.proofs.open.Goals as goal

pub returns-in-Err : goal.returns-in-Err
returns-in-Err c =
    open_refused _ _ c.open_fault.ensures c.in-Err.is c.nothing.ensures c.nothing-in-Err.ensures

pub returns : goal.returns
returns c =
    open_done _ _ c.open_fault.ensures c.in_default.is c.open-a.ensures
    c.open-b.ensures
