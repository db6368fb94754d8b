-- Both solids can be asked, and what is told of the arrays is so of the scene.
use Rattle.rules.proofs.Given.{rows_within, faces_within}
use Rattle.survey_scene.specs.Ready.{rows_fit, faces_fit_law, decoded}
use Rattle.survey_scene.specs.Surveys.{to_survey, sought_is}
use Rattle.survey_scene.proofs.first_or_enclosed.Goals as goal

pub find_first-requires : goal.find_first-requires
find_first-requires g c = (search (to_survey, decoded), search (to_survey, decoded))

pub rows-requires : goal.rows-requires
rows-requires g c = search (rows_fit, rows_within)

pub faces-requires : goal.faces-requires
faces-requires g c = search (faces_fit_law, faces_within)

pub returns : goal.returns
returns g c = search (sought_is, decoded)
