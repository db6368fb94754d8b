-- Each number that is no point decides; the last one is the answer.
use Rattle.laws.specs.Tests.{ands}
use Rattle.questions.specs.Answers.{are_points}
use Rattle.kernel.proofs.points.are_points.Goals as goal

pub returns-then-not-is_point : goal.returns-then-not-is_point
unfolding are_points
returns-then-not-is_point c = search ands depth 14

pub returns-then-not-is_point-2 : goal.returns-then-not-is_point-2
unfolding are_points
returns-then-not-is_point-2 c = search ands depth 14

pub returns-then-not-is_point-3 : goal.returns-then-not-is_point-3
unfolding are_points
returns-then-not-is_point-3 c = search ands depth 14

pub returns : goal.returns
unfolding are_points
returns c = search ands depth 14
