-- The first pair, else what is enclosed.
use Rattle.survey_scene.specs.Readings.{cross_told, a_in_b_told, b_in_a_told, apart_told}
use Rattle.survey_scene.proofs.verdict_by.Goals as goal

pub returns-in-Some : goal.returns-in-Some
returns-in-Some c = search cross_told

pub returns-then-p-a : goal.returns-then-p-a
returns-then-p-a c = search a_in_b_told

pub returns-then-q-b : goal.returns-then-q-b
returns-then-q-b c = search b_in_a_told

pub returns : goal.returns
returns c = search apart_told
