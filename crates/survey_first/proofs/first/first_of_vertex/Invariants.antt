-- What is left has the first of all: the edge of the lowest bit, or one behind it.
use Prim.Native.Nat.{◌^◌, ◌≤◌, ◌<◌}
use Rattle.questions.specs.Hits.{view_in}
use Rattle.survey_first.specs.First.{Left}
use Rattle.survey_first.proofs.first.first_of_vertex.Given as goal

abbrev pub invariant-loop-left : goal.invariant-loop-left
invariant-loop-left g l =
    (l.left < 2 ^ 64) × (l.left ≤ l.higher) × Left (view_in l.n l.rows l.corners) l.k l.u l.left

abbrev pub decreases-loop-left : goal.decreases-loop-left
decreases-loop-left g l = l.left
