use borrow.Author.Rules.{rules}
use mathlib.Core.Path.{◌∙◌}
use native.Mathlib.Omega.{arith}
use Rattle.laws.specs.Filled.{filled}
use Rattle.survey_sides.specs.Tables.{masks_from, masks_more}
use Rattle.survey_sides.proofs.point_masks.fill_points.Goals as goal

pub loop-i-init : goal.loop-i-init
unfolding masks_from filled
loop-i-init c = (search rules, c.requires.sloped)

pub sides-requires-clause-ready : goal.sides-requires-clause-ready
sides-requires-clause-ready c = c.requires.ready c.loop-i.i (omega arith)

pub loop-i-preserved : goal.loop-i-preserved
loop-i-preserved c =
    (c.put.ensures ∙ masks_more _ _ _ _ c.loop-i.invariant.0 c.sides.ensures.0, c.sides.ensures.1)
