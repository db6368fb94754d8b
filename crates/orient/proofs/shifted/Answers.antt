-- `orient::shifted` meets its contract: the three products of the shift are as small as is asked, and each coordinate is picked.
-- Assumes nothing.
use mathlib.Core.Path.{◌∙◌}
use mathlib.Core.Bool.{cond}
use lib.Dec.{lit<, lit≤}
use Rattle.laws.specs.Size.{kept, reads, called}
use Rattle.orient.specs.Bits.{times_ask, number, factor_held}
use Rattle.orient.proofs.Bits.{shift1, shift2, shift3}
use Rattle.orient.proofs.shifted.Goals as goal

pub times-s-requires : goal.times-s-requires
times-s-requires c =
    times_ask (factor_held c.requires c.factor.ensures) (number c.requires) (lit≤ tt)

pub times-t-requires : goal.times-t-requires
times-t-requires c =
    times_ask (shift1 c.requires c.factor.ensures c.times-s.ensures) (number c.requires) (lit≤ tt)

pub times-u-requires : goal.times-u-requires
times-u-requires c =
    times_ask (shift2 c.requires c.factor.ensures c.times-s.ensures c.times-t.ensures) (number c.requires) (lit≤ tt)

pub returns : goal.returns
returns c =
    λ i.
    record {
      x = called c.pick.type_inv (c.pick.ensures ∙ (λ j. cond c.args.sx (kept (shift1 c.requires c.factor.ensures c.times-s.ensures) j) (reads c.requires.x (lit< tt) j))) i;
      y = called c.pick-2.type_inv (c.pick-2.ensures ∙ (λ j. cond c.args.sy (kept (shift2 c.requires c.factor.ensures c.times-s.ensures c.times-t.ensures) j) (reads c.requires.y (lit< tt) j))) i;
      z =
          called c.pick-3.type_inv
          (c.pick-3.ensures ∙ (λ j. cond c.args.sz (kept (shift3 c.requires c.factor.ensures c.times-s.ensures c.times-t.ensures c.times-u.ensures) j) (reads c.requires.z (lit< tt) j))) i;
      w = reads c.requires.w (lit< tt) i;
    }
