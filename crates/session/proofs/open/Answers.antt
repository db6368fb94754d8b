-- The judge decides; an accepted scene is copied and counted.
use mathlib.Core.Path.{sym, ◌∙◌}
use Rattle.session.specs.Laws.{accepted_short, opened_not, opened_so}
use Rattle.session.proofs.open.Goals as goal

pub returns-in-Err : goal.returns-in-Err
returns-in-Err c = opened_not _ c.judge.ensures c.in-Err.is c.empty.ensures

pub copy-requires : goal.copy-requires
copy-requires c = accepted_short _ (sym c.judge.ensures ∙ c.in_default.is)

pub fresh-requires : goal.fresh-requires
fresh-requires c =
    accepted_short _ (sym c.judge.ensures ∙ c.in_default.is)

pub returns : goal.returns
returns c =
    opened_so _ c.judge.ensures c.in_default.is c.copy.ensures c.fresh.ensures
