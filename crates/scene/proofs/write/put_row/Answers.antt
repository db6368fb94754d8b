-- Three numbers of two bytes and one of one.
use mathlib.Core.Path.{ap, ◌∙◌}
use mir.Syntax.{w64}
use mir.Val.{SFits}
use mir.Facts.{to_z-of_z}
use Rattle.scene.specs.Write.{unsigned}
use Rattle.scene.specs.Written.{row_stored}
use borrow.Author.Rules.{rules}
use Rattle.scene.proofs.write.put_row.Goals as goal

pub returns : goal.returns
returns c =
    let fx : SFits w64 c.args.p.x = search rules in
    let fy : SFits w64 c.args.p.y = search rules in
    let fz : SFits w64 c.args.p.z = search rules in
    let fw : SFits w64 c.args.p.w = search rules in
    row_stored _ _ c.args.p c.put_two.ensures c.put_two-2.ensures c.put_two-3.ensures
    (c.unsigned.ensures.0 ∙ ap (unsigned 32768) (to_z-of_z fx))
    (c.unsigned-2.ensures.0 ∙ ap (unsigned 32768) (to_z-of_z fy))
    (c.unsigned-3.ensures.0 ∙ ap (unsigned 32768) (to_z-of_z fz)) (c.unsigned-4.ensures.0 ∙ ap (unsigned 128) (to_z-of_z fw))
