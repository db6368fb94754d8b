-- The mask is asked for against the other solid.
use Rattle.questions.specs.Hits.{edge_mask}
use Rattle.survey_narrow.specs.Lent.{around}
use borrow.Author.Rules.{rules}
use Rattle.survey_masks.proofs.edge_mask.Goals as goal

pub mask-requires : goal.mask-requires
mask-requires g c =
    let r = around _ _ c.requires.sides.1 _ _ c.requires.solid.1 c.requires.solid.2 in record {
      rows = search rules;
      points = search rules;
      edge = (c.requires.solid.0.weighted, c.requires.solid.0.edges _ _ c.requires.solid.1 c.requires.solid.2 c.requires.solid.3);
      sides = (c.requires.sides.0.own _ c.requires.solid.1, c.requires.sides.0.own _ c.requires.solid.2);
      around = r;
    }

pub returns : goal.returns
unfolding edge_mask
returns g c = c.mask.ensures
