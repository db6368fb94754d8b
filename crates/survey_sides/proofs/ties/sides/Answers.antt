-- What the planes tell, and where there are ties those settled.
use mathlib.Core.Path.{sym, ◌∙◌}
use Rattle.scene.specs.Arrays.{row_in, face_in}
use Rattle.survey_sides.specs.Ties.{masks_clear}
use Rattle.survey_sides.proofs.ties.sides.Goals as goal

pub settled-requires : goal.settled-requires
settled-requires c =
    record { rows = c.requires.rows; faces = (c.requires.faces.0, c.requires.faces.1, c.requires.ready); told = c.digits_of_point-m.ensures; sloped = c.requires.sloped }

pub returns-then-has_ties : goal.returns-then-has_ties
returns-then-has_ties c = c.settled.ensures

pub returns : goal.returns
returns c = (
  c.above_of.ensures
      ∙ masks_clear (row_in c.args.rows.now) (face_in c.args.corners.now) c.args.first c.args.count c.args.t c.requires.faces.1
      c.digits_of_point-m.ensures
      (sym c.has_ties.ensures ∙ c.if-has_ties.false),
  c.requires.sloped,
)
