-- Each turn pours one edge more.
use Rattle.questions.specs.WritePairs.{WritesPairs}
use Rattle.survey_edges.specs.Table.{table_hits}
use Rattle.survey_edges.proofs.pairs.write_pairs.Given as goal

abbrev pub invariant-loop-j : goal.invariant-loop-j
invariant-loop-j l = WritesPairs (table_hits l.first l.ends l.masks l.j) l.from l.seen l.initial.out l.out l.c
