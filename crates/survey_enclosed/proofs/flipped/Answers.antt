-- One of the two.
use lib.Bits.{bit_xor}
use Rattle.survey_enclosed.specs.WalkProof.{told_yes, told_no}
use Rattle.survey_enclosed.proofs.flipped.Goals as goal

pub returns-then-enclosed : goal.returns-then-enclosed
returns-then-enclosed c = told_yes (bit_xor c.args.fresh c.args.odd) c.args.odd c.if-enclosed.true

pub returns : goal.returns
returns c = told_no (bit_xor c.args.fresh c.args.odd) c.args.odd c.if-enclosed.false
