-- Both solids can be surveyed, and what is told of the arrays is so of the scene.
use Rattle.rules.proofs.Given.{rows_within, faces_within}
use Rattle.survey_scene.specs.Ready.{rows_fit, faces_fit_law, decoded}
use Rattle.survey_scene.specs.Surveys.{to_survey, survey_is}
use borrow.Author.Rules.{rules}
use Rattle.survey_scene.proofs.survey_of.Goals as goal

pub survey_scene-requires : goal.survey_scene-requires
survey_scene-requires g c = record { ready = (search (to_survey, decoded), search (to_survey, decoded)); sized = search rules }

pub rows-requires : goal.rows-requires
rows-requires g c = search (rows_fit, rows_within)

pub faces-requires : goal.faces-requires
faces-requires g c = search (faces_fit_law, faces_within)

pub returns : goal.returns
returns g c = search (survey_is, decoded)
