-- 11, then 12.
use Rattle.judge.specs.Laws.{rules}
use Rattle.questions.specs.Answers.{mask_fault}
use Rattle.kernel.proofs.masks.mask_fault.Goals as goal

pub returns-then-not-has_edge_and_solid : goal.returns-then-not-has_edge_and_solid
unfolding mask_fault
returns-then-not-has_edge_and_solid c = search rules

pub returns-then-not-are_outside : goal.returns-then-not-are_outside
unfolding mask_fault
returns-then-not-are_outside c = search rules

pub returns : goal.returns
unfolding mask_fault
returns c = search rules
