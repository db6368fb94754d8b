-- The judge decides; then whether some four points lie in one plane.
use Rattle.laws.specs.Exits.{exits}
use Rattle.clean.specs.Answers.{clean_refused, clean_told}
use Rattle.clean.proofs.clean.Goals as goal

pub returns-in_err-judge : goal.returns-in_err-judge
returns-in_err-judge c = exits c.from_residual.ensures.1 (clean_refused _ c.judge.ensures c.in_err-judge.was)

pub returns : goal.returns
returns c = search (clean_told, c.in_ok-judge.was)
