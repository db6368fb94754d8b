-- A vertex of A may be enclosed by B.
use Rattle.questions.specs.Laws.{other_a, other_b}
use Rattle.kernel.proofs.masks.other_solid.Goals as goal

pub returns-then-i-c : goal.returns-then-i-c
returns-then-i-c c = search other_b

pub returns : goal.returns
returns c = search other_a
