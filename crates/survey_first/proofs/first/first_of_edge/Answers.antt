-- Its mask tells the first face.
use Prim.Native.Nat.{ℕ}
use mathlib.Core.Path.{ap, ◌∙◌}
use native.Mathlib.Omega.{arith}
use Rattle.questions.specs.First.{first_of}
use Rattle.survey_edges.specs.Table.{entry_hits}
use Rattle.survey_first.proofs.first.first_of_edge.Goals as goal

pub edge_mask-m-requires : goal.edge_mask-m-requires
edge_mask-m-requires g c =
    record { solid = (c.requires.solid, c.requires.edge.0, c.requires.edge.1, c.requires.edge.2); sides = c.requires.sides }

pub first_of_mask-requires : goal.first_of_mask-requires
first_of_mask-requires g c = omega (arith, c.requires.solid.other.0)

pub returns : goal.returns
returns g c =
    c.first_of_mask.ensures
    ∙ ap (λ (w : ℕ). first_of (entry_hits c.args.k.other0 (record { low = c.args.u; high = c.args.v; mask = w }))) c.edge_mask-m.ensures
