-- `orient::ones::term1` meets its contract: three determinants are added, and no sum is larger than is allowed. Assumes nothing.
use mathlib.Core.Path.{◌∙◌}
use mathlib.Core.Bool.{true, false}
use lib.Dec.{lit≤}
use Rattle.orient.specs.Bits.{sum_ask, summed}
use Rattle.orient.proofs.OnesTerms.{c1_seen}
use Rattle.orient.specs.OnesSizes.{seen_held}
use Rattle.orient.proofs.ones.term1.Goals as goal

pub sum-requires : goal.sum-requires
sum-requires c =
    sum_ask (seen_held true false false c.requires.0 c.part.ensures) (seen_held false true false c.requires.0 c.part-2.ensures)
    (seen_held false false true c.requires.0 c.part-3.ensures) (lit≤ tt)

pub returns : goal.returns
returns c =
    summed (seen_held true false false c.requires.0 c.part.ensures) (seen_held false true false c.requires.0 c.part-2.ensures)
    (seen_held false false true c.requires.0 c.part-3.ensures) c.sum.type_inv c.sum.ensures
    ∙ c1_seen c.requires.1
