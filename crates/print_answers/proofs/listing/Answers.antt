-- By what is counted.
use mathlib.Core.Path.{sym, ◌∙◌}
use Rattle.print_lines.specs.Laws.{by_case}
use Rattle.print_answers.specs.Said.{listing_line}
use Rattle.print_answers.proofs.listing.Goals as goal

pub returns-in-Err : goal.returns-in-Err
returns-in-Err g c =
    by_case listing_line (sym c.count-x.ensures ∙ c.in-Err.is) c.refused.ensures

pub returns-in-Ok : goal.returns-in-Ok
returns-in-Ok g c =
    by_case listing_line (sym c.count-x.ensures ∙ c.in-Ok.is) c.pairs.ensures
