use borrow.Author.Rules.{rules}
use mathlib.Core.Path.{ap, ◌∙◌}
use Rattle.laws.specs.Filled.{filled}
use Rattle.survey_sides.specs.Planes.{plane_for}
use Rattle.survey_sides.specs.Tables.{planes_from, planes_more}
use Rattle.survey_sides.proofs.planes.fill.Goals as goal

pub loop-i-init : goal.loop-i-init
unfolding planes_from filled
loop-i-init c = search rules

pub loop-i-preserved : goal.loop-i-preserved
loop-i-preserved c =
    c.put.ensures ∙ planes_more _ _ _ _ _ c.loop-i.invariant
    (c.plane.ensures ∙ ap (plane_for _) c.face_in.ensures)
