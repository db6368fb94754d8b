-- A's pairs, then B's.
use native.Mathlib.Omega.{arith}
use Rattle.questions.specs.PairsWritten.{writes_more}
use Rattle.survey.specs.Survey.{pairs_of}
use Rattle.survey.specs.Laws.{table_most}
use Rattle.survey.proofs.answers.write_all_pairs.Goals as goal

pub write_pairs-requires : goal.write_pairs-requires
write_pairs-requires c = (
  omega arith,
  omega arith,
  omega (
    arith,
    c.write_pairs-c.ensures.count,
    table_most c.args.a c.args.aends.now c.args.amasks.now
        c.args.t.a.edges,
  ),
)

pub returns : goal.returns
unfolding pairs_of
returns c =
    writes_more c.write_pairs-c.ensures c.write_pairs.ensures
