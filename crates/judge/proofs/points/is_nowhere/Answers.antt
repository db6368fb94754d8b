-- Each number that is not 0 decides.
use Rattle.laws.specs.Tests.{ands}
use Rattle.judge.specs.Judge.{nowhere}
use Rattle.judge.proofs.points.is_nowhere.Goals as goal

pub returns-then-not-coordinate_zero : goal.returns-then-not-coordinate_zero
unfolding nowhere
returns-then-not-coordinate_zero c = search ands depth 14

pub returns-then-not-coordinate_zero-2 : goal.returns-then-not-coordinate_zero-2
unfolding nowhere
returns-then-not-coordinate_zero-2 c = search ands depth 14

pub returns-then-not-coordinate_zero-3 : goal.returns-then-not-coordinate_zero-3
unfolding nowhere
returns-then-not-coordinate_zero-3 c = search ands depth 14

pub returns : goal.returns
unfolding nowhere
returns c = search ands depth 14
