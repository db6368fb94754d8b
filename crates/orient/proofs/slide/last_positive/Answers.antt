-- `orient::last_positive` meets its contract: the two counts, by the remainder of their sum. Assumes nothing.
use Prim.Native.Nat.{◌+◌, ◌%◌}
use lib.Dec.{eqb}
use Rattle.orient.proofs.slide.last_positive.Goals as goal

pub returns : goal.returns
returns c = λ i. eqb ((c.out_of_order.ensures.0 i + c.negative_weights.ensures.0 i) % 2) 1
