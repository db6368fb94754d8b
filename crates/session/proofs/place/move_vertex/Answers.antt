-- The fault decides; what is not refused is written.
use mathlib.Core.Path.{sym, ◌∙◌}
use Rattle.session.specs.Place.{move_room, kept_so, put_so}
use Rattle.session.proofs.place.move_vertex.Goals as goal

pub put_row-requires : goal.put_row-requires
put_row-requires c =
    let m = move_room _ _ _ (sym c.move_fault.ensures ∙ c.in_ok-move_fault.was) in (m.fits, m.room)

pub returns-in_err-move_fault : goal.returns-in_err-move_fault
returns-in_err-move_fault c = kept_so _ _ c.move_fault.ensures c.in_err-move_fault.was c.from_residual.ensures.1

pub returns : goal.returns
returns c =
    put_so _ _ c.move_fault.ensures c.in_ok-move_fault.was c.put_row.ensures
