-- The points are numbered from 1.
use Rattle.questions.specs.Answers.{is_point}
use Rattle.kernel.proofs.points.is_point.Goals as goal

pub returns : goal.returns
unfolding is_point
returns c = cc
