-- The counts that were answered, or none.
use mathlib.Core.Path.{sym, ap, ◌∙◌}
use Rattle.session.specs.Session.{counts_by}
use Rattle.session.proofs.counts_of.Goals as goal

pub returns-in-Ok : goal.returns-in-Ok
returns-in-Ok c = ap counts_by (sym c.in-Ok.is ∙ c.count-c.ensures)

pub returns-in-Err : goal.returns-in-Err
returns-in-Err c = ap counts_by (sym c.in-Err.is ∙ c.count-c.ensures)
