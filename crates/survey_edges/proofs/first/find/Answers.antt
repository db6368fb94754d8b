use native.Mathlib.Omega.{arith}
use Rattle.questions.specs.First.{first_start, first_more, first_found, first_end}
use Rattle.survey_edges.proofs.first.find.Goals as goal

pub loop-j-init : goal.loop-j-init
loop-j-init c = first_start _

pub loop-j-preserved : goal.loop-j-preserved
loop-j-preserved c = search first_more

pub returns : goal.returns
returns c = first_end _ (omega arith) (omega arith) c.loop-j.invariant

pub returns-in-Some : goal.returns-in-Some
returns-in-Some c = search first_found
