-- Its own flaws, counted on from the length of the first.
use Rattle.std.proofs.Common.{◌≤◌, length, ap, ◌∙◌, arith, Err}
use Rattle.off_scene.specs.Laws.{outside_within, sides_within}
use Rattle.off_scene.proofs.second.Goals as goal

pub overflow_add-result : goal.overflow_add-result
overflow_add-result c =
    let w = c.in-Err-Outside in
    let h : w.p ≤ length c.args.b.now = outside_within _ c.form.ensures (w.is ∙ ap Err w.field-0-is) in
    omega (arith, w.p-is)

pub overflow_add-result-in-Err-Sides : goal.overflow_add-result-in-Err-Sides
overflow_add-result-in-Err-Sides c =
    let w = c.in-Err-Sides in
    let h : w.p ≤ length c.args.b.now = sides_within _ c.form.ensures (w.is ∙ ap Err w.field-0-is) in
    omega (arith, w.p-is)
