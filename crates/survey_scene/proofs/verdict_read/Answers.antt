-- The tables have the first pair and the words.
use Rattle.survey_scene.specs.Readings.{other_fits, fits, sought_read}
use borrow.Author.Rules.{rules}
use Rattle.survey_scene.proofs.verdict_read.Goals as goal

pub first_pair-x-requires : goal.first_pair-x-requires
first_pair-x-requires c = (search fits, search other_fits, search other_fits)

pub verdict_by-requires : goal.verdict_by-requires
verdict_by-requires c = record { s_value = search rules; enough_for_verdict = search sought_read }
