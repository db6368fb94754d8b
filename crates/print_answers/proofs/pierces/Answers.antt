-- The line of what the kernel answers.
use mathlib.Core.Path.{sym}
use Rattle.print_lines.specs.Laws.{by_case}
use Rattle.print_lines.specs.Lines.{answer_line}
use Rattle.print.specs.Text.{ascii}
use Rattle.print_answers.proofs.pierces.Goals as goal

pub returns : goal.returns
returns g c =
    by_case (answer_line (ascii "pierces")) (sym c.pierces-x.ensures) c.pierces.ensures
