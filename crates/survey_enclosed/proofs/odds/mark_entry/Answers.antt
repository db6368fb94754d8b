-- An edge of an even mask marks nothing; one of an odd mask marks each end at the other.
use mathlib.Core.Path.{ap, ◌∙◌}
use Rattle.pierce_masks.specs.Faces.{is_odd}
use Rattle.survey_edges.specs.Table.{entry_in}
use Rattle.survey_enclosed.specs.Odds.{marks_none, marks_both}
use Rattle.survey_enclosed.proofs.odds.mark_entry.Goals as goal

pub returns-then-not-is_odd : goal.returns-then-not-is_odd
returns-then-not-is_odd c =
    marks_none _ _ (entry_in c.args.ends.now c.args.masks.now c.args.j) _
    (c.is_odd.ensures ∙ ap is_odd c.mask_at.ensures.value) c.if-not-is_odd.true

pub returns : goal.returns
returns c =
    marks_both _ _ (entry_in c.args.ends.now c.args.masks.now c.args.j) _ c.requires.1 c.requires.2 c.requires.3 c.requires.4
    (c.is_odd.ensures ∙ ap is_odd c.mask_at.ensures.value) c.if-not-is_odd.false c.from-u.ensures
    c.from-v.ensures
    c.bit.ensures c.bit-2.ensures c.join.ensures c.join-2.ensures
