-- `orient::term1` meets its contract: points of weight 1 have their own way; else three determinants are added, and no sum is
-- larger than is allowed. Assumes nothing.
use mathlib.Core.Path.{sym, ◌∙◌}
use mathlib.Core.Bool.{true, false}
use lib.Dec.{lit≤}
use Rattle.orient.specs.Ones.{ones_are}
use Rattle.orient.specs.Columns.{c1_parts}
use Rattle.orient.specs.Bits.{sum_ask, summed}
use Rattle.orient.proofs.Bits.{part_held}
use Rattle.orient.proofs.term1.Goals as goal

pub term1-requires : goal.term1-requires
term1-requires c = (c.requires, ones_are _ _ _ _ (sym c.are_ones.ensures ∙ c.if-are_ones.true))

pub sum-requires : goal.sum-requires
sum-requires c =
    sum_ask (part_held true false false c.requires c.part.ensures) (part_held false true false c.requires c.part-2.ensures)
    (part_held false false true c.requires c.part-3.ensures) (lit≤ tt)

pub returns : goal.returns
returns c =
    summed (part_held true false false c.requires c.part.ensures) (part_held false true false c.requires c.part-2.ensures)
    (part_held false false true c.requires c.part-3.ensures) c.sum.type_inv c.sum.ensures
    ∙ sym (c1_parts _ _ _ _)
