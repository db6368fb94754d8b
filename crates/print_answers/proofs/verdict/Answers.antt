-- The line of what the kernel answers.
use mathlib.Core.Path.{sym}
use Rattle.print_lines.specs.Laws.{by_case}
use Rattle.print_lines.specs.Lines.{found_line}
use Rattle.print_answers.proofs.verdict.Goals as goal

pub returns : goal.returns
returns g c = by_case found_line (sym c.verdict_of-v.ensures) c.verdict.ensures
