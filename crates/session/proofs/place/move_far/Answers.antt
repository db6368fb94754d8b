-- The fault decides; what is not refused is written.
use mathlib.Core.Path.{sym, ◌∙◌}
use Rattle.session.specs.Place.{far_room, kept_so, put_so}
use Rattle.session.proofs.place.move_far.Goals as goal

pub put_row-requires : goal.put_row-requires
put_row-requires c =
    let m = far_room _ _ (sym c.move_far_fault.ensures ∙ c.in_ok-move_far_fault.was) in (m.fits, m.room)

pub returns-in_err-move_far_fault : goal.returns-in_err-move_far_fault
returns-in_err-move_far_fault c = kept_so _ _ c.move_far_fault.ensures c.in_err-move_far_fault.was c.from_residual.ensures.1

pub returns : goal.returns
returns c =
    put_so _ _ c.move_far_fault.ensures c.in_ok-move_far_fault.was c.put_row.ensures
