-- The far point's words, then those of the vertices, by the same slopes.
use native.Mathlib.Omega.{arith}
use mathlib.Core.Path.{refl}
use Rattle.questions.specs.Hits.{view_in}
use Rattle.survey_narrow.specs.Sides.{own_asked, far_asked, told}
use Rattle.survey_narrow.proofs.setup.fill_sides_lent.Goals as goal

pub overflow_sub-n : goal.overflow_sub-n
overflow_sub-n c = omega (arith, c.requires.solid.0.within.sound.points)

pub fill_points-requires : goal.fill_points-requires
fill_points-requires c =
    let v = view_in c.args.n c.args.rows.now c.args.corners.now in
    let q = far_asked v c.args.k c.requires.solid.0 c.requires.made refl in
    record { rows = (c.requires.solid.0.within.sound.rows, c.requires.solid.0.within.sound.faces); solid = q.0; ready = q.1; sloped = c.requires.sloped }

pub fill_points-requires-2 : goal.fill_points-requires-2
fill_points-requires-2 c =
    let v = view_in c.args.n c.args.rows.now c.args.corners.now in
    let q = own_asked v c.args.k c.requires.solid.0 c.requires.made in
    record { rows = (c.requires.solid.0.within.sound.rows, c.requires.solid.0.within.sound.faces); solid = q.0; ready = q.1; sloped = c.fill_points.ensures.sloped }

pub returns : goal.returns
returns c =
    let v = view_in c.args.n c.args.rows.now c.args.corners.now in record {
      told = told v c.args.k c.requires.solid.0 _ c.requires.solid.1 refl c.fill_points.ensures.words c.fill_points-2.ensures.words;
      sloped = c.fill_points-2.ensures.sloped;
    }
