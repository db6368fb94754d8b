use native.Mathlib.Omega.{arith}
use mathlib.Core.Path.{◌∙◌}
use Rattle.scene.specs.Read.{face_none}
use Prim.Native.Nat.{◌+◌, ◌*◌}
use Rattle.laws.specs.Filled.{filled, filled_more}
use Rattle.scene.specs.Limits.{limits}
use Rattle.scene.specs.Tables.{tables_of, face}
use Rattle.scene.specs.Decode.{face_set, faces_decoded}
use borrow.Author.Rules.{rules}
use Rattle.scene.proofs.decode.faces.Goals as goal

pub loop-k-init : goal.loop-k-init
unfolding filled
loop-k-init c = search rules

pub loop-k-preserved : goal.loop-k-preserved
loop-k-preserved c =
    c.put_face.ensures ∙ filled_more face_set _ _ _ c.loop-k.invariant c.corners.ensures

pub returns : goal.returns
returns c =
    faces_decoded (face (tables_of c.args.s.now)) c.loop-k.k (3 * (2 * limits.most_faces + 1)) c.loop-k.invariant (omega arith)
    (λ j h. face_none c.args.s.now j (omega arith))
