-- By the answer.
use mathlib.Core.Path.{sym}
use Rattle.print_lines.specs.Laws.{by_case}
use Rattle.print_answers.specs.Said.{clean_line}
use Rattle.print_answers.proofs.clean.Goals as goal

pub returns : goal.returns
returns c = by_case clean_line (sym c.clean-a.ensures) c.clean.ensures
