-- The pairs of A's table and those of B's.
use mathlib.Core.List.{[]}
use native.Mathlib.Omega.{arith}
use Rattle.survey.specs.Laws.{table_most, pairs_count}
use Rattle.survey.proofs.answers.count_pairs.Goals as goal

pub overflow_add-result : goal.overflow_add-result
overflow_add-result c =
    omega (
      arith,
      c.count-x.ensures 0 [],
      table_most 0 [] c.args.amasks.now c.args.t.a.edges,
      c.count-y.ensures 0 [],
      table_most 0 [] c.args.bmasks.now c.args.t.b.edges,
    )

pub returns : goal.returns
returns c =
    λ a b p q. pairs_count c.args.t a b p c.args.amasks.now q c.args.bmasks.now (c.count-x.ensures a p)
    (c.count-y.ensures b q)
