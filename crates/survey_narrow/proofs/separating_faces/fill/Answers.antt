use borrow.Author.Rules.{rules}
use mathlib.Core.Path.{ap, ◌∙◌}
use Rattle.laws.specs.Filled.{filled}
use Rattle.survey_sides.specs.Tables.{masks_from, masks_more}
use Rattle.survey_narrow.specs.Cover.{cut_in}
use Rattle.survey_narrow.specs.Union.{union_of, union_more}
use Rattle.survey_narrow.proofs.separating_faces.fill.Goals as goal

pub loop-i-init : goal.loop-i-init
unfolding masks_from filled union_of
loop-i-init c = search rules

pub loop-i-preserved : goal.loop-i-preserved
loop-i-preserved c =
    let e = c.separating_of-c.ensures ∙ ap (cut_in _) c.face_in.ensures in
    (c.put.ensures ∙ masks_more _ _ _ _ c.loop-i.invariant.0 e, c.either-any.ensures ∙ union_more _ _ c.loop-i.invariant.1 e)
