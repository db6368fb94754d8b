-- 11, then 12.
use Rattle.judge.specs.Laws.{rules}
use Rattle.questions.specs.Answers.{sign_fault}
use Rattle.kernel.proofs.points.sign_fault.Goals as goal

pub returns-then-not-are_points : goal.returns-then-not-are_points
unfolding sign_fault
returns-then-not-are_points c = search rules

pub returns-then-not-differ : goal.returns-then-not-differ
unfolding sign_fault
returns-then-not-differ c = search rules

pub returns : goal.returns
unfolding sign_fault
returns c = search rules
