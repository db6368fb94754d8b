-- The far point's words, then those of the vertices.
use Rattle.questions.specs.Hits.{view_in}
use Rattle.survey_narrow.specs.Sides.{own_asked, far_asked, told}
use Rattle.survey_narrow.proofs.setup.fill_sides.Goals as goal

pub fill-requires : goal.fill-requires
fill-requires c =
    let v = view_in c.args.n c.args.rows.now c.args.corners.now in
    let q = far_asked v c.args.k c.requires.solid.0 c.requires.made c.far.ensures in
    record { rows = (c.requires.solid.0.within.sound.rows, c.requires.solid.0.within.sound.faces); solid = q.0; ready = q.1 }

pub fill-requires-2 : goal.fill-requires-2
fill-requires-2 c =
    let v = view_in c.args.n c.args.rows.now c.args.corners.now in
    let q = own_asked v c.args.k c.requires.solid.0 c.requires.made in
    record { rows = (c.requires.solid.0.within.sound.rows, c.requires.solid.0.within.sound.faces); solid = q.0; ready = q.1 }

pub returns : goal.returns
returns c =
    let v = view_in c.args.n c.args.rows.now c.args.corners.now in
    told v c.args.k c.requires.solid.0 _ c.requires.solid.1 c.far.ensures c.fill.ensures
    c.fill-2.ensures
