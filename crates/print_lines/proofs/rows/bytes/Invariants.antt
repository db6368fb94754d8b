-- So many bytes stand, each behind a space.
use lib.ListN.{take}
use Rattle.print.specs.Put.{Put}
use Rattle.print_lines.specs.Rows.{spaced}
use Rattle.print_lines.proofs.rows.bytes.Given as goal

abbrev pub invariant-loop-b : goal.invariant-loop-b
invariant-loop-b l = Put l.initial.out l.at (spaced (take l.b-index l.t)) l.out l.p
