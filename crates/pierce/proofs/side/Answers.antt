-- Where H(s) and H(t) are alike the side does not count; else B(s,t) decides.
use Rattle.pierce.specs.Steps.{side_none, side_some}
use Rattle.pierce.proofs.side.Goals as goal

pub returns-then-hs-ht : goal.returns-then-hs-ht
returns-then-hs-ht c = side_none _ _ _ c.if-hs-ht.true

pub returns : goal.returns
returns c = side_some _ _ _ c.if-hs-ht.false c.positive_at.ensures
