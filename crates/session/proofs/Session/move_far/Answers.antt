use mathlib.Core.Path.{sym, ◌∙◌}
use native.Mathlib.Omega.{arith}
use lib.Seq.{length-take-le}
use Rattle.session.specs.Session.{far_moved_of}
use Rattle.session.specs.Laws.{row_fits, far_free, changed_not, changed_so}
use Rattle.session.proofs.Session.move_far.Goals as goal

pub slice_bounds-far_fault-end : goal.slice_bounds-far_fault-end
slice_bounds-far_fault-end c = sym (length-take-le _ _ c.size-n.ensures.within)

pub with_row-requires : goal.with_row-requires
with_row-requires c =
    let l = length-take-le c.size-n.result c.args.self.bytes c.size-n.ensures.within in
    let f = far_free _ _ (sym c.far_fault-j.ensures ∙ c.in-Ok.is) in
    (row_fits f.row, omega arith, c.size-n.ensures.fits)

pub returns-in-Err : goal.returns-in-Err
unfolding far_moved_of
returns-in-Err c =
    changed_not _ _ (rw c.size-n.ensures.same at c.far_fault-j.ensures) c.in-Err.is

pub returns-in-Ok : goal.returns-in-Ok
unfolding far_moved_of
returns-in-Ok c =
    changed_so _ _ (rw c.size-n.ensures.same at c.far_fault-j.ensures) c.in-Ok.is c.size-n.ensures.long
    c.with_row.ensures
