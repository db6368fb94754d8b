-- Each fact is read off the survey.
use Rattle.survey_scene.specs.Readings.{gathered}
use borrow.Author.Rules.{rules}
use Rattle.kernel.proofs.facts.gather.Goals as goal

pub returns : goal.returns
returns g c =
    gathered c.args.s.now c.requires c.survey_of-t.ensures (search rules) (search rules) _ (search rules)
    (search rules)
