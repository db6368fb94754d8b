-- A new table of slopes is blank.
use mathlib.Core.Path.{◌≡◌}
use native.Mathlib.Omega.{arith}
use Rattle.laws.specs.Filled.{filled}
use Rattle.survey_sides.specs.Tables.{masks_from}
use Rattle.survey_sides.specs.Slopes.{zeros_sloped}
use Rattle.survey_sides.proofs.point_masks.fill_tied.Goals as goal

pub returns-then-n-eq0 : goal.returns-then-n-eq0
unfolding masks_from filled
returns-then-n-eq0 c = let z : c.args.n ≡ 0 = omega arith in rw z

pub fill_points-requires : goal.fill_points-requires
fill_points-requires c =
    record { rows = c.requires.rows; solid = c.requires.solid; ready = c.requires.ready; sloped = zeros_sloped _ _ }

pub returns : goal.returns
returns c = c.fill_points.ensures.words
