-- The line of what is told.
use Rattle.std.proofs.Math.Path.{sym}
use Rattle.print_lines.specs.Laws.{by_case}
use Rattle.print_lines.specs.Lines.{counts_line}
use Rattle.edit.proofs.steps.line_of.Goals as goal

pub returns : goal.returns
returns c = by_case counts_line (sym c.told.ensures) c.counts.ensures
