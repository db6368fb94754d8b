use mathlib.Core.Path.{sym, ◌∙◌}
use native.Mathlib.Omega.{arith}
use lib.Seq.{length-take-le}
use Rattle.session.specs.Session.{reversed_of}
use Rattle.session.specs.Laws.{turn_free, changed_not, changed_so}
use Rattle.session.proofs.Session.reverse.Goals as goal

pub slice_bounds-turn_fault-end : goal.slice_bounds-turn_fault-end
slice_bounds-turn_fault-end c = sym (length-take-le _ _ c.size-n.ensures.within)

pub overflow_sub-f : goal.overflow_sub-f
overflow_sub-f c = let f = turn_free _ _ (sym c.turn_fault-j.ensures ∙ c.in-Ok.is) in omega (arith, f.low)

pub with_face-requires : goal.with_face-requires
with_face-requires c =
    let l = length-take-le c.size-n.result c.args.self.bytes c.size-n.ensures.within in
    let f = turn_free _ _ (sym c.turn_fault-j.ensures ∙ c.in-Ok.is) in
    (omega (arith, f.whole, f.low, f.high, c.size-n.ensures.fits, l), c.size-n.ensures.fits, omega (arith, f.whole, f.low, f.high, c.size-n.ensures.fits, l))

pub returns-in-Err : goal.returns-in-Err
unfolding reversed_of
returns-in-Err c =
    changed_not _ _ (rw c.size-n.ensures.same at c.turn_fault-j.ensures) c.in-Err.is

pub returns-in-Ok : goal.returns-in-Ok
unfolding reversed_of
returns-in-Ok c =
    changed_so _ _ (rw c.size-n.ensures.same at c.turn_fault-j.ensures) c.in-Ok.is c.size-n.ensures.long
    (rw c.size-n.ensures.same at c.with_face.ensures)
