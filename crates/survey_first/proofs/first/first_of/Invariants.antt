-- Nothing is found so far.
use mathlib.Core.Path.{◌≡◌}
use mathlib.Core.List.{[]}
use Rattle.questions.specs.Hits.{view_in}
use Rattle.survey_first.specs.First.{hits_to}
use Rattle.survey_first.proofs.first.first_of.Given as goal

abbrev pub invariant-loop-i : goal.invariant-loop-i
invariant-loop-i g l = [] ≡ hits_to (view_in l.n l.rows l.corners) l.k l.i
