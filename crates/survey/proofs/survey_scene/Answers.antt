-- Each solid by its own words, narrowed by the other's; what was told for A leaves the words of B's vertices empty.
use Rattle.questions.specs.Hits.{view_in}
use Rattle.survey_narrow.specs.Narrowing.{blank_new, parts_asked, parts_told, blank_told}
use borrow.Author.Rules.{rules}
use Rattle.survey.proofs.survey_scene.Goals as goal

pub fill_narrowing-requires : goal.fill_narrowing-requires
fill_narrowing-requires g c = let q = parts_asked _ c.args.a c.requires.ready.0 in record { corners = q.0; faces = q.1 }

pub survey_part-of_a-requires : goal.survey_part-of_a-requires
survey_part-of_a-requires g c =
    let v = view_in c.args.n c.args.rows.now c.args.corners.now in
    let z = blank_new v c.args.a c.args.b in
    let h = parts_told v c.args.a c.args.b c.requires.ready.0 c.requires.ready.1 c.fill_sides-2.ensures c.fill_narrowing.ensures.own_after
    c.fill_narrowing.ensures.separating_after z in
    record { solid = (c.requires.ready.0, c.requires.sized.0); tables = (c.fill_sides.ensures, h); lent = (search rules, search rules) }

pub fill_narrowing-requires-2 : goal.fill_narrowing-requires-2
fill_narrowing-requires-2 g c = let q = parts_asked _ c.args.b c.requires.ready.1 in record { corners = q.0; faces = q.1 }

pub survey_part-of_b-requires : goal.survey_part-of_b-requires
survey_part-of_b-requires g c =
    let v = view_in c.args.n c.args.rows.now c.args.corners.now in
    let n = blank_new v c.args.b c.args.a in
    let z = blank_told v c.args.a c.args.b c.requires.ready.0 c.requires.ready.1 c.fill_sides-2.ensures c.fill_narrowing.ensures.own_after
    c.fill_narrowing.ensures.separating_after n in
    let h = parts_told v c.args.b c.args.a c.requires.ready.1 c.requires.ready.0 c.fill_sides.ensures c.fill_narrowing-2.ensures.own_after
    c.fill_narrowing-2.ensures.separating_after z in
    record { solid = (c.requires.ready.1, c.requires.sized.1); tables = (c.fill_sides-2.ensures, h); lent = c.survey_part-of_a.ensures.lent }
