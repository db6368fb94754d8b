-- 11, then 12.
use Rattle.judge.specs.Laws.{rules}
use Rattle.questions.specs.Answers.{pierces_fault}
use Rattle.kernel.proofs.points.pierces_fault.Goals as goal

pub returns-then-not-has_edge_and_face : goal.returns-then-not-has_edge_and_face
unfolding pierces_fault
returns-then-not-has_edge_and_face c = search rules

pub returns-then-not-is_clear_of : goal.returns-then-not-is_clear_of
unfolding pierces_fault
returns-then-not-is_clear_of c = search rules

pub returns : goal.returns
unfolding pierces_fault
returns c = search rules
