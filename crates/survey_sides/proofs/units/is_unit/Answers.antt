-- A number is 1 where its bits are.
use borrow.Author.Rules.{rules}
use mir.Syntax.{w64}
use mir.Val.{SFits}
use Rattle.orient.specs.OnesSizes.{one_read}
use Rattle.survey_sides.proofs.units.is_unit.Goals as goal

pub returns : goal.returns
returns c =
    let fits : SFits w64 c.args.r.w = search rules in
    one_read fits
