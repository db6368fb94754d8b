-- The first look, and where it finds nothing all edges.
use Rattle.questions.specs.Hits.{view_in}
use Rattle.survey_sides.specs.Slopes.{zeros_sloped}
use Rattle.survey_narrow.specs.Sides.{Begun}
use Rattle.survey_first.specs.FindFirst.{sought_early}
use borrow.Author.Rules.{rules}
use Rattle.survey_first.proofs.find_first.Goals as goal

pub first_look-found-requires : goal.first_look-found-requires
first_look-found-requires g c =
    record { solid = (c.requires.0.within.sound, c.make_planes.ensures); links = c.fill_links.ensures.own; sloped = zeros_sloped _ _ }

pub returns-in-Some : goal.returns-in-Some
returns-in-Some g c =
    let v = view_in c.args.n c.args.rows.now c.args.corners.now in
    sought_early v c.args.a c.args.b {x = c.first_look-found.result} (search rules) c.crossed.ensures c.first_look-found.ensures.0

pub fill_sides_lent-requires : goal.fill_sides_lent-requires
fill_sides_lent-requires g c =
    record { solid = (c.requires.0, search rules); made = c.make_planes.ensures; sloped = c.first_look-found.ensures.1 }

pub find_first_by_sides-requires : goal.find_first_by_sides-requires
find_first_by_sides-requires g c =
    let b : Begun (view_in c.args.n c.args.rows.now c.args.corners.now) c.args.a c.args.b _ _ _ = record {
      a_ready = c.requires.0;
      b_ready = c.requires.1;
      linked = c.fill_links.ensures.own;
      told = c.fill_sides_lent.ensures.told;
      room = c.make_planes.ensures.size;
    } in
    record { begun = b; sloped = c.fill_sides_lent.ensures.sloped }
