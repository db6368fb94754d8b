-- The three tests as the definition has them.
use mathlib.Core.Bool.{◌&&◌}
use Rattle.survey_sides.proofs.units.are_units.Goals as goal

pub returns : goal.returns
returns c i = (c.is_unit.ensures i && c.is_unit-2.ensures i) && c.is_unit-3.ensures i
