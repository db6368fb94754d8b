-- The pairs of both tables are the listing, counted before any is written.
use Rattle.survey_scene.specs.Readings.{other_fits, fits, none_read, some_read}
use Rattle.survey_scene.proofs.write_read.Goals as goal

pub write_all_pairs-requires : goal.write_all_pairs-requires
write_all_pairs-requires c = (search fits, search other_fits, search other_fits)

pub returns-then-lacks_room : goal.returns-then-lacks_room
returns-then-lacks_room c = search none_read

pub returns : goal.returns
returns c = search some_read
