-- The sides of v are told, and the mask of the two tells the first face.
use Prim.Native.Nat.{ℕ}
use mathlib.Core.Path.{ap, ◌∙◌}
use native.Mathlib.Omega.{arith}
use Rattle.questions.specs.First.{first_of}
use Rattle.questions.specs.Hits.{view_in, edge_mask}
use Rattle.survey_first.specs.FirstLook.{side_asked}
use Rattle.survey_edges.specs.Table.{entry_hits}
use borrow.Author.Rules.{rules}
use Rattle.survey_first.proofs.first_look.first_look_at.Goals as goal

pub sides-w-requires : goal.sides-w-requires
sides-w-requires g c =
    let v = view_in c.args.n c.args.rows.now c.args.corners.now in
    let q = side_asked v c.args.k c.args.v c.requires.solid.0 c.requires.solid.1 c.requires.edge.1 in
    record { rows = q.0; faces = q.1.0; ready = q.1.1; sloped = c.requires.sides.1 }

pub mask_from_sides-x-requires : goal.mask_from_sides-x-requires
mask_from_sides-x-requires g c =
    record {
      rows = (c.requires.solid.0.rows, c.requires.solid.0.faces);
      points = search rules;
      faces = c.requires.solid.0.other;
      edge = (c.requires.solid.0.weighted, c.requires.solid.0.edges _ _ c.requires.edge.0 c.requires.edge.1 c.requires.edge.2);
      sides = (c.requires.sides.0, c.sides-w.ensures.0);
    }

pub first_of_mask-requires : goal.first_of_mask-requires
first_of_mask-requires g c = omega (arith, c.requires.solid.0.other.0)

pub returns : goal.returns
unfolding edge_mask
returns g c = (
  c.first_of_mask.ensures
      ∙ ap (λ (w : ℕ). first_of (entry_hits c.args.k.other0 (record { low = c.args.u; high = c.args.v; mask = w }))) c.mask_from_sides-x.ensures,
  c.sides-w.ensures.1,
)
