-- c1 decides, and where it is zero the tie is asked whole.
use mathlib.Core.Path.{ap, ◌∙◌}
use Rattle.scene.specs.Arrays.{row_in, face_in}
use Rattle.survey_sides.specs.Sides.{above}
use Rattle.survey_sides.specs.Slopes.{tilt_told}
use Rattle.survey_sides.proofs.ties.tie_above.Goals as goal

pub c1_at-d-requires : goal.c1_at-d-requires
c1_at-d-requires c =
    record { rows = c.requires.rows; point = c.requires.point; ready = c.requires.ready.made; sloped = c.requires.sloped }

pub returns-then-d-ne0 : goal.returns-then-d-ne0
returns-then-d-ne0 c = (
  tilt_told (row_in c.args.rows.now) (face_in c.args.corners.now c.args.k) c.args.t c.requires.within c.c1_at-d.type_inv
      c.c1_at-d.ensures.tilt
      c.if-d-ne0.true,
  c.c1_at-d.ensures.sloped,
)

pub tied_at-requires : goal.tied_at-requires
tied_at-requires c =
    let w = c.requires.rows.1 c.args.k in
    rw c.face_in-f.ensures record { sizes = (c.requires.rows.0, w.p, w.q, w.r, c.requires.point.0); points = c.requires.ready.asked; tied = c.requires.within }

pub returns : goal.returns
unfolding above
returns c = (c.tied_at.ensures ∙ ap (above _ _) c.face_in-f.ensures, c.c1_at-d.ensures.sloped)
