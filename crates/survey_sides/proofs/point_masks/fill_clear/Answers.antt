use borrow.Author.Rules.{rules}
use mathlib.Core.Path.{sym, ◌∙◌}
use native.Mathlib.Omega.{arith}
use Rattle.laws.specs.Filled.{filled}
use Rattle.scene.specs.Arrays.{row_in, face_in}
use Rattle.survey_sides.specs.Tables.{masks_from, masks_more}
use Rattle.survey_sides.specs.Ties.{masks_clear}
use Rattle.survey_sides.proofs.point_masks.fill_clear.Goals as goal

pub loop-i-init : goal.loop-i-init
unfolding masks_from filled
loop-i-init c = search rules

pub digits_of_point-m-requires-clause-ready : goal.digits_of_point-m-requires-clause-ready
digits_of_point-m-requires-clause-ready c = c.requires.ready c.loop-i.i (omega arith)

pub loop-i-preserved : goal.loop-i-preserved
loop-i-preserved c =
    c.put.ensures
    ∙ masks_more _ _ _ _ c.loop-i.invariant
    (c.above_of.ensures ∙ masks_clear (row_in c.args.rows.now) (face_in c.args.corners.now) c.args.k.other0
    c.args.k.others _ (omega arith) c.digits_of_point-m.ensures
    (sym c.has_ties.ensures ∙ c.if-has_ties.false))
