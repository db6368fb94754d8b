-- What is left has the first of all; a few edges are asked.
use Prim.Native.Nat.{◌^◌, ◌≤◌, ◌<◌}
use Rattle.scene.specs.Arrays.{row_in, face_in}
use Rattle.survey_sides.specs.Slopes.{Sloped}
use Rattle.questions.specs.Hits.{view_in}
use Rattle.survey_first.specs.First.{Left}
use Rattle.survey_first.proofs.first_look.first_look_from.Given as goal

abbrev pub invariant-loop : goal.invariant-loop
invariant-loop g l =
    (l.left < 2 ^ 64) × (l.left ≤ l.higher) × Left (view_in l.n l.rows l.corners) l.k l.u l.left × Sloped (row_in l.rows) (face_in l.corners) l.slopes
