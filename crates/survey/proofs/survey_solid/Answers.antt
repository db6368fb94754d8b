-- The words are told; the tables that narrow the questions stay empty.
use Rattle.questions.specs.Hits.{view_in}
use Rattle.survey_narrow.specs.Narrowing.{parted_new}
use borrow.Author.Rules.{rules}
use Rattle.survey.proofs.survey_solid.Goals as goal

pub survey_part-requires : goal.survey_part-requires
survey_part-requires g c =
    let v = view_in c.args.n c.args.rows.now c.args.corners.now in
    record { solid = c.requires; tables = (c.fill_sides.ensures, parted_new v c.args.k); lent = (search rules, search rules) }
