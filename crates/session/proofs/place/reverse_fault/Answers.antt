-- The judge decides, then the change's own rules.
use Rattle.laws.specs.Exits.{exits}
use Rattle.judge.specs.Laws.{then_refused, chain}
use Rattle.session.specs.Place.{reverse_fault}
use Rattle.session.proofs.place.reverse_fault.Goals as goal

pub returns-in_err-judge : goal.returns-in_err-judge
unfolding reverse_fault
returns-in_err-judge c = exits c.from_residual.ensures.1 (then_refused _ c.judge.ensures c.in_err-judge.was)

pub returns : goal.returns
unfolding reverse_fault
returns c = search (chain, c.in_ok-judge.was) depth 12
