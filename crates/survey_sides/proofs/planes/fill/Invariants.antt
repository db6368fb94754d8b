-- Each turn stores the plane of one more face.
use mathlib.Core.Path.{◌≡◌}
use Rattle.scene.specs.Arrays.{row_in, face_in}
use Rattle.survey_sides.specs.Tables.{planes_from}
use Rattle.survey_sides.proofs.planes.fill.Given as goal

abbrev pub invariant-loop-i : goal.invariant-loop-i
invariant-loop-i l = l.planes ≡ planes_from (row_in l.rows) (face_in l.corners) l.first l.i l.initial.planes
