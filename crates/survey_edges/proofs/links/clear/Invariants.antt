-- Each turn empties one word more.
use Rattle.survey_edges.specs.Links.{Cleared}
use Rattle.survey_edges.proofs.links.clear.Given as goal

abbrev pub invariant-loop-i : goal.invariant-loop-i
invariant-loop-i l = Cleared l.low l.i l.initial.links l.links
