-- Read off the survey.
use Rattle.survey_scene.specs.Readings.{counts_read}
use Rattle.kernel.proofs.counts.counts_of.Goals as goal

pub returns : goal.returns
returns g c = search counts_read
