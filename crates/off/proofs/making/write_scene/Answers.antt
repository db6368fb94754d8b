-- A scene that was made is within the buffer.
use Rattle.std.proofs.Common.{sym, ◌∙◌, arith, length-take-le}
use Rattle.off_scene.specs.Laws.{made_room}
use Rattle.off.proofs.making.write_scene.Goals as goal

pub slice_bounds-out-end : goal.slice_bounds-out-end
slice_bounds-out-end c = omega (arith, made_room _ _ _ _ (sym c.scene_of.ensures.answer ∙ c.in-Ok.is))

pub slice_bounds-answer-end : goal.slice_bounds-answer-end
slice_bounds-answer-end c =
    sym (length-take-le _ _ (omega (arith, made_room _ _ _ _ (sym c.scene_of.ensures.answer ∙ c.in-Ok.is))))
