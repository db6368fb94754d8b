-- The line of what the kernel answers.
use mathlib.Core.Path.{sym}
use Rattle.print_lines.specs.Laws.{by_case}
use Rattle.print_lines.specs.Lines.{sign_line}
use Rattle.print_answers.proofs.sign.Goals as goal

pub returns : goal.returns
returns c = by_case sign_line (sym c.sign-x.ensures) c.sign.ensures
