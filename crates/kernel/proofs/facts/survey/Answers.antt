-- The judge decides; an accepted scene is answered.
use Rattle.questions.specs.Laws.{accepted_so}
use Rattle.survey_scene.specs.Facts.{survey_refused, survey_told}
use Rattle.kernel.proofs.facts.survey.Goals as goal

pub returns-in_err-judge : goal.returns-in_err-judge
returns-in_err-judge g c = survey_refused _ _ c.judge.ensures c.in_err-judge.was c.from_residual.ensures.1

pub gather-requires : goal.gather-requires
gather-requires g c = search (accepted_so, c.in_ok-judge.was)

pub returns : goal.returns
returns g c = search (survey_told, c.in_ok-judge.was)
