-- A's first, else B's.
use Rattle.survey.specs.Survey.{pairs_of}
use Rattle.questions.specs.First.{first_left, first_right}
use Rattle.survey.proofs.answers.first_pair.Goals as goal

pub returns-in-Some : goal.returns-in-Some
unfolding pairs_of
returns-in-Some c = search first_left

pub returns : goal.returns
unfolding pairs_of
returns c = search first_right
