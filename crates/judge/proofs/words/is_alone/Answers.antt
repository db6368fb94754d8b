-- The word with its own bit is that bit.
use lib.Bits.{bit_or}
use lib.Dec.{eqb}
use lib.ListN.{get_or}
use Rattle.judge.proofs.words.is_alone.Goals as goal

pub returns : goal.returns
returns c =
    λ i. eqb (bit_or (get_or c.args.words.now c.args.v 0) (c.bit.ensures i)) (c.bit-2.ensures i)
