-- Each turn stores one more; beyond the last the array holds the zeros that the tables say.
use mathlib.Core.Path.{◌≡◌}
use Rattle.laws.specs.Filled.{filled}
use Rattle.scene.specs.Arrays.{no_corners}
use Rattle.scene.specs.Tables.{tables_of, face}
use Rattle.scene.specs.Decode.{face_set}
use Rattle.scene.proofs.decode.faces.Given as goal

abbrev pub invariant-loop-k : goal.invariant-loop-k
invariant-loop-k l = l.a ≡ filled face_set (face (tables_of l.s)) l.k no_corners
