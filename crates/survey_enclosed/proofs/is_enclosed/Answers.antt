-- The oddness of the mask toward the far point, asked for against the other solid.
use mathlib.Core.Path.{ap, ◌∙◌}
use Rattle.pierce_masks.specs.Faces.{is_odd}
use Rattle.questions.specs.Hits.{enclosed_vertex}
use borrow.Author.Rules.{rules}
use Rattle.survey_enclosed.proofs.is_enclosed.Goals as goal

pub mask-requires : goal.mask-requires
mask-requires g c =
    record {
      rows = search rules;
      points = search rules;
      faces = search rules;
      edge = (c.requires.solid.0.weighted, c.requires.solid.0.outward _ c.requires.solid.1);
      sides = (c.requires.sides.own _ c.requires.solid.1, c.requires.sides.far);
    }

pub returns : goal.returns
unfolding enclosed_vertex
returns g c = c.is_odd.ensures ∙ ap is_odd c.mask.ensures
