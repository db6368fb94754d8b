-- Nothing is found so far.
use mathlib.Core.Path.{◌≡◌}
use mathlib.Core.List.{[]}
use Rattle.survey_edges.specs.Table.{table_hits}
use Rattle.survey_edges.proofs.first.find.Given as goal

abbrev pub invariant-loop-j : goal.invariant-loop-j
invariant-loop-j l = [] ≡ table_hits l.first l.ends l.masks l.j
