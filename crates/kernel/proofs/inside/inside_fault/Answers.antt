-- 1 is A and 2 is B.
use Rattle.judge.specs.Laws.{rules}
use Rattle.questions.specs.Answers.{is_solid, inside_fault}
use Rattle.kernel.proofs.inside.inside_fault.Goals as goal

pub returns-then-not-is_within : goal.returns-then-not-is_within
unfolding inside_fault is_solid
returns-then-not-is_within c = search rules

pub returns : goal.returns
unfolding inside_fault is_solid
returns c = search rules
