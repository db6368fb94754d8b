-- So many bytes of the name stand.
use Rattle.std.specs.Prelude.{take}
use Rattle.print.specs.Put.{Put}
use Rattle.table.specs.Row.{shown}
use Rattle.table.proofs.row.put_name.Given as goal

abbrev pub invariant-loop-b : goal.invariant-loop-b
invariant-loop-b l = Put l.fn.out l.fn.at (take l.b-index (shown l.name)) l.out l.p
