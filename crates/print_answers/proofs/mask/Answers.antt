-- By what is said of the mask.
use mathlib.Core.Path.{sym, ap, ◌∙◌}
use Rattle.print_lines.specs.Laws.{by_case}
use Rattle.questions.specs.Answers.{said_mask}
use Rattle.print_answers.specs.Said.{words_line}
use Rattle.print_answers.proofs.mask.Goals as goal

pub returns-in-Err : goal.returns-in-Err
returns-in-Err g c =
    by_case words_line (sym c.mask-x.ensures ∙ ap said_mask c.in-Err.is) c.refused.ensures

pub returns-in-Ok : goal.returns-in-Ok
returns-in-Ok g c =
    by_case words_line (sym c.mask-x.ensures ∙ ap said_mask c.in-Ok.is) c.faces.ensures
