-- No edge is odd.
use Rattle.survey_edges.specs.Links.{words}
use Rattle.questions.specs.Hits.{view_in}
use Rattle.survey_first.specs.Still.{odds_still}
use Rattle.survey_first.proofs.inside_still.Goals as goal

pub enclosed_word-requires : goal.enclosed_word-requires
enclosed_word-requires g c =
    let v = view_in c.args.n c.args.rows.now c.args.corners.now in
    record { solid = (c.requires.solid.0, c.requires.solid.1, odds_still v c.args.k c.requires.none c.requires.solid.0 words); sides = c.requires.sides }
