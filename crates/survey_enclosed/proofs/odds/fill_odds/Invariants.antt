-- Each turn marks one edge more.
use Rattle.survey_edges.specs.Table.{entries_in}
use Rattle.survey_enclosed.specs.Odds.{Marked}
use Rattle.survey_enclosed.proofs.odds.fill_odds.Given as goal

abbrev pub invariant-loop-j : goal.invariant-loop-j
invariant-loop-j l = Marked l.low l.verts (entries_in l.ends l.masks l.j) l.odds
