-- The words of the two ends are looked up.
use mathlib.Core.Path.{◌∙◌}
use Rattle.survey_sides.proofs.mask.Goals as goal

pub mask_from_sides-requires : goal.mask_from_sides-requires
mask_from_sides-requires g c =
    record { rows = c.requires.rows; points = c.requires.points; faces = c.requires.faces; edge = c.requires.edge; sides = (c.mask_at.ensures ∙ c.requires.sides.0, c.mask_at-2.ensures ∙ c.requires.sides.1) }
