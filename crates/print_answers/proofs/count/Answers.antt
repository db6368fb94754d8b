-- The line of what the kernel answers.
use mathlib.Core.Path.{sym}
use Rattle.print_lines.specs.Laws.{by_case}
use Rattle.print_lines.specs.Lines.{counts_line}
use Rattle.print_answers.proofs.count.Goals as goal

pub returns : goal.returns
returns g c = by_case counts_line (sym c.count-x.ensures) c.counts.ensures
