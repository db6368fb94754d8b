-- The line of what the kernel answers.
use mathlib.Core.Path.{sym}
use Rattle.print_lines.specs.Laws.{by_case}
use Rattle.print_lines.specs.Lines.{judged_line}
use Rattle.print_answers.proofs.judge.Goals as goal

pub returns : goal.returns
returns c = by_case judged_line (sym c.judge-j.ensures) c.judged.ensures
