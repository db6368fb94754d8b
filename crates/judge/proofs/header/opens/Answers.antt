-- Fewer than six bytes do not open a scene; else the mark decides.
use Rattle.judge.specs.Judge.{opens}
use Rattle.laws.specs.Tests.{and_less_stops, and_less_goes_on}
use Rattle.judge.proofs.header.opens.Goals as goal

pub returns-then-s-lt6 : goal.returns-then-s-lt6
unfolding opens
returns-then-s-lt6 c = and_less_stops _ c.if-s-lt6.true

pub returns : goal.returns
unfolding opens
returns c = and_less_goes_on c.if-s-lt6.false (cc)
