-- 11.
use Rattle.judge.specs.Laws.{rules}
use Rattle.questions.specs.Answers.{is_vertex, enclosed_fault}
use Rattle.questions.specs.Laws.{within_so}
use Rattle.kernel.proofs.masks.enclosed_fault.Goals as goal

pub returns-then-not-is_within : goal.returns-then-not-is_within
unfolding enclosed_fault is_vertex
returns-then-not-is_within c = search (rules, within_so)

pub returns : goal.returns
unfolding enclosed_fault is_vertex
returns c = search (rules, within_so)
