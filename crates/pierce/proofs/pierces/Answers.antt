-- Where A(u) and A(v) are alike the formula is false; else the sides decide, with a helper that is at most 6.
use Rattle.pierce.specs.Formula.{pierces}
use Rattle.pierce.specs.Steps.{ends_alike, ends_differ}
use Rattle.pierce.specs.Helper.{helper_most}
use Rattle.pierce.specs.Beside.{ask_u, ask_v, helped}
use borrow.Author.Rules.{rules}
use Rattle.pierce.proofs.pierces.Goals as goal

pub positive_at-a-requires : goal.positive_at-a-requires
positive_at-a-requires c = record { sizes = search rules; points = ask_u c.requires.edge.0 c.requires.edge.1 }

pub positive_at-requires : goal.positive_at-requires
positive_at-requires c = record { sizes = search rules; points = ask_v c.requires.edge.0 c.requires.edge.1 }

pub returns-then-a-positive_at : goal.returns-then-a-positive_at
unfolding pierces
returns-then-a-positive_at c = ends_alike _ _ _ _ _ _ _ c.positive_at-a.ensures c.positive_at.ensures c.if-a-positive_at.true

pub sides-requires : goal.sides-requires
sides-requires c =
    let h = helper_most c.args.n c.args.u c.args.v c.args.f c.requires.points.1 in
    record { points = search rules; edge = helped c.requires.edge.0 c.requires.edge.1 c.requires.points.1 c.helper.ensures }

pub returns : goal.returns
unfolding pierces
returns c =
    ends_differ _ _ _ _ _ _ _ c.positive_at-a.ensures c.positive_at.ensures c.if-a-positive_at.false
    (rw c.helper.ensures at c.sides.ensures)
