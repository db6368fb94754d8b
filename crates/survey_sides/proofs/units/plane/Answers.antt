-- Two of the rows are seen from the third.
use mathlib.Core.Path.{◌∙◌}
use Rattle.survey_sides.specs.Units.{plane_from_directions, unit_plane_law}
use Rattle.survey_sides.specs.UnitSizes.{unit_less, unit_seen}
use Rattle.survey_sides.proofs.units.plane.Goals as goal

pub row_minus-requires : goal.row_minus-requires
row_minus-requires c = unit_less c.requires.0 c.requires.2

pub row_minus-requires-2 : goal.row_minus-requires-2
row_minus-requires-2 c = unit_less c.requires.1 c.requires.2

pub plane_from_directions-requires : goal.plane_from_directions-requires
plane_from_directions-requires c =
    rw (c.row_minus.ensures, c.row_minus-2.ensures) (unit_seen c.requires.0 c.requires.2 c.requires.1)

pub returns : goal.returns
returns c =
    c.plane_from_directions.ensures ∙ (λ i. plane_from_directions (c.row_minus.ensures i) (c.row_minus-2.ensures i) c.args.c)
    ∙ unit_plane_law c.requires.3
