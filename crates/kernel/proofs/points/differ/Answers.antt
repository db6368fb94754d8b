-- Each two that are the same decide; the last pair is the answer.
use Rattle.laws.specs.Tests.{ands}
use Rattle.questions.specs.Answers.{differ}
use Rattle.kernel.proofs.points.differ.Goals as goal

pub returns-then-a-b : goal.returns-then-a-b
unfolding differ
returns-then-a-b c = search ands depth 16

pub returns-then-a-c : goal.returns-then-a-c
unfolding differ
returns-then-a-c c = search ands depth 16

pub returns-then-a-d : goal.returns-then-a-d
unfolding differ
returns-then-a-d c = search ands depth 16

pub returns-then-b-c : goal.returns-then-b-c
unfolding differ
returns-then-b-c c = search ands depth 16

pub returns-then-b-d : goal.returns-then-b-d
unfolding differ
returns-then-b-d c = search ands depth 16

pub returns : goal.returns
unfolding differ
returns c = search ands depth 16
