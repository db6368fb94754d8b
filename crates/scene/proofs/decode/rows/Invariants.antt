-- Each turn stores one more; beyond the last the array holds the zeros that the tables say.
use mathlib.Core.Path.{◌≡◌}
use Rattle.laws.specs.Filled.{filled}
use Rattle.scene.specs.Arrays.{no_rows}
use Rattle.scene.specs.Tables.{tables_of, row}
use Rattle.scene.specs.Decode.{row_set}
use Rattle.scene.proofs.decode.rows.Given as goal

abbrev pub invariant-loop-i : goal.invariant-loop-i
invariant-loop-i l = l.a ≡ filled row_set (row (tables_of l.s)) l.i no_rows
