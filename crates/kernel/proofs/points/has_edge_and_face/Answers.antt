-- Each number that the scene lacks decides; the last one is the answer.
use Rattle.laws.specs.Tests.{ands}
use Rattle.questions.specs.Answers.{is_face, edge_and_face}
use Rattle.questions.specs.Laws.{within_so}
use Rattle.kernel.proofs.points.has_edge_and_face.Goals as goal

pub returns-then-not-is_point : goal.returns-then-not-is_point
unfolding edge_and_face is_face
returns-then-not-is_point c = search ands depth 14

pub returns-then-not-is_point-2 : goal.returns-then-not-is_point-2
unfolding edge_and_face is_face
returns-then-not-is_point-2 c = search ands depth 14

pub returns : goal.returns
unfolding edge_and_face is_face
returns c = search (ands, within_so) depth 14
