-- A line a turn.
use mathlib.Core.List.{map}
use Rattle.laws.specs.Lists.{run}
use Rattle.print.specs.Put.{Put}
use Rattle.print.specs.Text.{text}
use Rattle.scene.specs.Tables.{tables_of, row}
use Rattle.off_write.specs.Drawing.{row_words}
use Rattle.off_write.proofs.vertices.Given as goal

abbrev pub invariant-loop-i : goal.invariant-loop-i
invariant-loop-i l =
    Put l.initial.out l.at (text (map (row_words l.is_four) (run (row (tables_of l.s)) l.first l.i))) l.out l.p
