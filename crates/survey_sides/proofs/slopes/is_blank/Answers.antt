-- The four tests as the definition has them.
use borrow.Author.Rules.{rules}
use mathlib.Core.Path.{ap, ◌∙◌}
use mathlib.Core.Bool.{◌&&◌}
use Rattle.orient.specs.Bits.{RowFits, read}
use Rattle.survey_sides.specs.Slopes.{is_zero}
use Rattle.survey_sides.proofs.slopes.is_blank.Goals as goal

pub returns : goal.returns
returns c =
    let f : RowFits c.args.r = search rules in
    let x = c.is_zero.ensures ∙ ap is_zero (read f.x) in
    let y = c.is_zero-2.ensures ∙ ap is_zero (read f.y) in
    let z = c.is_zero-3.ensures ∙ ap is_zero (read f.z) in
    let w = c.is_zero-4.ensures ∙ ap is_zero (read f.w) in
    λ i. ((x i && y i) && z i) && w i
