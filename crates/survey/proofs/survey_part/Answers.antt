-- Links, then edges with their masks, then the oddness of edges, then what is enclosed.
use native.Mathlib.Omega.{arith}
use mathlib.Core.Path.{◌∙◌}
use Rattle.questions.specs.Hits.{view_in}
use Rattle.survey_edges.specs.Room.{solid_room}
use Rattle.survey_enclosed.specs.OddsProof.{odds_are}
use Rattle.survey.specs.Laws.{filled_edges, marked_edges, ends_in}
use borrow.Author.Rules.{rules}
use Rattle.survey.proofs.survey_part.Goals as goal

pub fill_odds-requires : goal.fill_odds-requires
fill_odds-requires g c =
    let v = view_in c.args.n c.args.rows.now c.args.corners.now in
    record {
      room = (
        omega (arith, c.fill_solid-edges.ensures.count, solid_room v c.args.k c.requires.solid.0.within),
        omega (arith, c.requires.solid.0.within.sound.vertices.0),
        omega (arith, c.requires.solid.0.within.sound.vertices.1),
        search rules,
      );
      ends = ends_in v c.args.k _ _ _ (filled_edges c.fill_solid-edges.ensures);
    }

pub enclosed_word-inside-requires : goal.enclosed_word-inside-requires
enclosed_word-inside-requires g c =
    let v = view_in c.args.n c.args.rows.now c.args.corners.now in
    let m = marked_edges _ _ (filled_edges c.fill_solid-edges.ensures) c.fill_odds.ensures in
    record { solid = (c.requires.solid.0, c.fill_links.ensures.own, odds_are v c.args.k c.requires.solid.0 m); sides = c.requires.tables.0 }

pub returns : goal.returns
returns g c =
    let v = view_in c.args.n c.args.rows.now c.args.corners.now in record {
      told = record {
        edges = filled_edges c.fill_solid-edges.ensures;
        fits = omega (arith, c.fill_solid-edges.ensures.count, solid_room v c.args.k c.requires.solid.0.within);
        inside = c.enclosed_word-inside.ensures;
      };
      lent = (c.fill_links.ensures.size ∙ c.requires.lent.0, c.fill_odds.ensures.size);
    }
