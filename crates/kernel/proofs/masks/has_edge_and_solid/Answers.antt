-- Each number that the scene lacks decides; the last one is the answer.
use Rattle.laws.specs.Tests.{ands}
use Rattle.questions.specs.Answers.{is_solid, edge_and_solid}
use Rattle.kernel.proofs.masks.has_edge_and_solid.Goals as goal

pub returns-then-not-is_point : goal.returns-then-not-is_point
unfolding edge_and_solid is_solid
returns-then-not-is_point c = search ands depth 14

pub returns-then-not-is_point-2 : goal.returns-then-not-is_point-2
unfolding edge_and_solid is_solid
returns-then-not-is_point-2 c = search ands depth 14

pub returns : goal.returns
unfolding edge_and_solid is_solid
returns c = search ands depth 14
