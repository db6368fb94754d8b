-- The judge decides; an accepted scene is answered.
use Rattle.laws.specs.Exits.{exits}
use Rattle.questions.specs.Laws.{accepted_so, answered_so, err_so}
use Rattle.questions.specs.Answers.{counted_of}
use Rattle.kernel.proofs.counts.count.Goals as goal

pub returns-in_err-judge : goal.returns-in_err-judge
unfolding counted_of
returns-in_err-judge g c = exits c.from_residual.ensures.1 (err_so _ c.judge.ensures c.in_err-judge.was)

pub counts_of-requires : goal.counts_of-requires
unfolding counted_of
counts_of-requires g c = search (accepted_so, c.in_ok-judge.was)

pub returns : goal.returns
unfolding counted_of
returns g c = search (answered_so, c.in_ok-judge.was)
