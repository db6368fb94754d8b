-- What is known is right; each turn passes one vertex more.
use Rattle.questions.specs.Hits.{view_in}
use Rattle.survey_enclosed.specs.Walk.{Reached}
use Rattle.survey_enclosed.proofs.enclosed_word.Given as goal

abbrev pub invariant-loop-t : goal.invariant-loop-t
invariant-loop-t g l = Reached (view_in l.n l.rows l.corners) l.k l.t

abbrev pub decreases-loop-t : goal.decreases-loop-t
decreases-loop-t g l = l.t.left
