-- A row of three numbers of 16 bits is short.
use native.Mathlib.Omega.{arith}
use Rattle.print_lines.specs.Rows.{pair_short}
use Rattle.print_lines.proofs.rows.row.Goals as goal

pub returns : goal.returns
returns c =
    record { held = c.pair.ensures; short = pair_short _ _ _ (omega arith) (omega arith) (omega arith) }
