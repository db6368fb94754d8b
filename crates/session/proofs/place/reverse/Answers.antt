-- The fault decides; what is not refused is written.
use mathlib.Core.Path.{sym, ap₂, ◌∙◌}
use native.Mathlib.Omega.{arith}
use Rattle.scene.specs.Write.{corners_put}
use Rattle.session.specs.Place.{face_room, kept_so, put_so}
use Rattle.session.proofs.place.reverse.Goals as goal

pub overflow_sub-f : goal.overflow_sub-f
overflow_sub-f c =
    let m = face_room _ _ (sym c.reverse_fault.ensures ∙ c.in_ok-reverse_fault.was) in m.low

pub face_start-at-requires : goal.face_start-at-requires
face_start-at-requires c =
    let m = face_room _ _ (sym c.reverse_fault.ensures ∙ c.in_ok-reverse_fault.was) in
    omega (arith, m.high)

pub overflow_sub-f-2 : goal.overflow_sub-f-2
overflow_sub-f-2 c =
    let m = face_room _ _ (sym c.reverse_fault.ensures ∙ c.in_ok-reverse_fault.was) in m.low

pub reversed_face-t-requires : goal.reversed_face-t-requires
reversed_face-t-requires c =
    let m = face_room _ _ (sym c.reverse_fault.ensures ∙ c.in_ok-reverse_fault.was) in omega (arith, m.high)

pub put_corners-requires : goal.put_corners-requires
put_corners-requires c =
    let m = face_room _ _ (sym c.reverse_fault.ensures ∙ c.in_ok-reverse_fault.was) in
    (c.reversed_face-t.ensures.1, omega (arith, m.room, c.face_start-at.ensures.0))

pub returns-in_err-reverse_fault : goal.returns-in_err-reverse_fault
returns-in_err-reverse_fault c = kept_so _ _ c.reverse_fault.ensures c.in_err-reverse_fault.was c.from_residual.ensures.1

pub returns : goal.returns
returns c =
    put_so _ _ c.reverse_fault.ensures c.in_ok-reverse_fault.was
    (c.put_corners.ensures ∙ ap₂ (corners_put _) c.face_start-at.ensures.0 c.reversed_face-t.ensures.0)
