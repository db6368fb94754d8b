-- The solid can be surveyed, and what is told of the arrays is so of the scene.
use Rattle.rules.proofs.Given.{rows_within, faces_within}
use Rattle.survey_scene.specs.Ready.{rows_fit, faces_fit_law, decoded}
use Rattle.survey_scene.specs.Surveys.{to_survey, inside_is}
use Rattle.kernel.proofs.inside.inside_of.Goals as goal

pub rows-requires : goal.rows-requires
rows-requires g c = search (rows_fit, rows_within)

pub faces-requires : goal.faces-requires
faces-requires g c = search (faces_fit_law, faces_within)

pub survey_solid-t-requires : goal.survey_solid-t-requires
survey_solid-t-requires g c = search (to_survey, decoded)

pub returns : goal.returns
returns g c = search (inside_is, decoded)
