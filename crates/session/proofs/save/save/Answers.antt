-- The fault decides; a scene that is not refused is copied.
use mathlib.Core.Path.{refl, sym, ◌∙◌}
use lib.Seq.{length-take-le}
use Rattle.session.specs.Saved.{save_room, saved_not, saved_so}
use Rattle.session.proofs.save.save.Goals as goal

pub slice_bounds-save_fault-end : goal.slice_bounds-save_fault-end
slice_bounds-save_fault-end c = sym (length-take-le _ _ c.size-n.ensures.within)

pub slice_bounds-copy-end : goal.slice_bounds-copy-end
slice_bounds-copy-end c =
    sym (length-take-le _ _ c.size-n.ensures.within)

pub copy-requires : goal.copy-requires
copy-requires c = save_room _ _ (sym c.save_fault-j.ensures ∙ c.in-Ok.is)

pub returns-in-Err : goal.returns-in-Err
returns-in-Err c =
    saved_not _ _ (rw c.size-n.ensures.same at c.save_fault-j.ensures) refl c.in-Err.is

pub returns-in-Ok : goal.returns-in-Ok
returns-in-Ok c =
    saved_so _ _ (rw c.size-n.ensures.same at c.save_fault-j.ensures) refl c.in-Ok.is (rw c.size-n.ensures.same at c.copy.ensures)
