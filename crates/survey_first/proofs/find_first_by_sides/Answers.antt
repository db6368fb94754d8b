-- A's edges, then B's; where none pierces no edge is odd.
use Rattle.questions.specs.Hits.{view_in, solid_hits}
use Rattle.survey_narrow.specs.Narrowing.{blank_new, parts_asked, parts_told, blank_told}
use Rattle.survey_first.specs.FindFirst.{none_first, sought_in_a, sought_in_b, sought_none}
use borrow.Author.Rules.{rules}
use Rattle.survey_first.proofs.find_first_by_sides.Goals as goal

pub make_planes-requires : goal.make_planes-requires
make_planes-requires g c =
    record {
      rows = (c.requires.begun.b_ready.within.sound.rows, c.requires.begun.b_ready.within.sound.faces);
      faces = c.requires.begun.b_ready.within.sound.other;
      room = c.requires.begun.room;
    }

pub fill_sides_lent-requires : goal.fill_sides_lent-requires
fill_sides_lent-requires g c =
    record { solid = (c.requires.begun.b_ready, search rules); made = c.make_planes.ensures; sloped = c.requires.sloped }

pub fill_narrowing-requires : goal.fill_narrowing-requires
fill_narrowing-requires g c =
    let q = parts_asked _ c.args.a c.requires.begun.a_ready in record { corners = q.0; faces = q.1 }

pub first_of-of_a-requires : goal.first_of-of_a-requires
first_of-of_a-requires g c =
    let v = view_in c.args.n c.args.rows.now c.args.corners.now in
    let z = blank_new v c.args.a c.args.b in record {
      solid = (c.requires.begun.a_ready.within.sound, c.requires.begun.linked);
      sides = (
        c.requires.begun.told,
        parts_told v c.args.a c.args.b c.requires.begun.a_ready c.requires.begun.b_ready c.fill_sides_lent.ensures.told
            c.fill_narrowing.ensures.own_after c.fill_narrowing.ensures.separating_after z,
      );
    }

pub fill_links-requires : goal.fill_links-requires
fill_links-requires g c =
    record {
      solid = (c.requires.begun.b_ready.within.sound.corners, c.requires.begun.b_ready.within.sound.own);
      room = (search rules, c.requires.begun.b_ready.within.sound.vertices.0, c.requires.begun.b_ready.within.sound.vertices.1);
    }

pub fill_narrowing-requires-2 : goal.fill_narrowing-requires-2
fill_narrowing-requires-2 g c =
    let q = parts_asked _ c.args.b c.requires.begun.b_ready in record { corners = q.0; faces = q.1 }

pub first_of-of_b-requires : goal.first_of-of_b-requires
first_of-of_b-requires g c =
    let v = view_in c.args.n c.args.rows.now c.args.corners.now in
    let n = blank_new v c.args.b c.args.a in
    let z = blank_told v c.args.a c.args.b c.requires.begun.a_ready c.requires.begun.b_ready c.fill_sides_lent.ensures.told c.fill_narrowing.ensures.own_after
    c.fill_narrowing.ensures.separating_after n in record {
      solid = (c.requires.begun.b_ready.within.sound, c.fill_links.ensures.own);
      sides = (
        c.fill_sides_lent.ensures.told,
        parts_told v c.args.b c.args.a c.requires.begun.b_ready c.requires.begun.a_ready c.requires.begun.told
            c.fill_narrowing-2.ensures.own_after c.fill_narrowing-2.ensures.separating_after z,
      );
    }

pub inside_still-requires : goal.inside_still-requires
inside_still-requires g c =
    let v = view_in c.args.n c.args.rows.now c.args.corners.now in record {
      solid = (c.requires.begun.a_ready, c.requires.begun.linked);
      sides = c.requires.begun.told;
      none = none_first (solid_hits v c.args.a) c.first_of-of_a.ensures c.in_default.is;
    }

pub inside_still-requires-2 : goal.inside_still-requires-2
inside_still-requires-2 g c =
    let v = view_in c.args.n c.args.rows.now c.args.corners.now in record {
      solid = (c.requires.begun.b_ready, c.fill_links.ensures.own);
      sides = c.fill_sides_lent.ensures.told;
      none = none_first (solid_hits v c.args.b) c.first_of-of_b.ensures c.in_default-of_b.is;
    }

pub returns : goal.returns
returns g c =
    let v = view_in c.args.n c.args.rows.now c.args.corners.now in
    sought_none v c.args.a c.args.b c.first_of-of_a.ensures c.in_default.is
    c.first_of-of_b.ensures c.in_default-of_b.is c.inside_still.ensures c.inside_still-2.ensures

pub returns-in-Some : goal.returns-in-Some
returns-in-Some g c = search sought_in_a

pub returns-in-Some-of_b : goal.returns-in-Some-of_b
returns-in-Some-of_b g c = search sought_in_b
