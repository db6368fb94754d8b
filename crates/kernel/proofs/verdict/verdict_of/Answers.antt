-- The judge decides; an accepted scene is answered.
use Rattle.laws.specs.Exits.{exits}
use Rattle.questions.specs.Laws.{accepted_so, answered_so, err_so}
use Rattle.questions.specs.Answers.{verdict_of}
use Rattle.survey_scene.specs.Surveys.{sought_settles}
use Rattle.kernel.proofs.verdict.verdict_of.Goals as goal

pub returns-in_err-judge : goal.returns-in_err-judge
unfolding verdict_of
returns-in_err-judge g c = exits c.from_residual.ensures.1 (err_so _ c.judge.ensures c.in_err-judge.was)

pub first_or_enclosed-requires : goal.first_or_enclosed-requires
unfolding verdict_of
first_or_enclosed-requires g c = search (accepted_so, c.in_ok-judge.was)

pub verdict_by-requires : goal.verdict_by-requires
unfolding verdict_of
verdict_by-requires g c = record { s_value = search (accepted_so, c.in_ok-judge.was); enough_for_verdict = search (sought_settles, c.in_ok-judge.was) }

pub returns : goal.returns
unfolding verdict_of
returns g c = search (answered_so, c.in_ok-judge.was)
