use mathlib.Core.Path.{ap, ◌∙◌}
use native.Mathlib.Omega.{arith}
use borrow.Author.Rules.{rules}
use Rattle.laws.specs.Mask.{digit, mask_of, mask_more}
use Rattle.scene.specs.Limits.{limits}
use Rattle.scene.specs.Arrays.{FaceWithin}
use Rattle.pierce.specs.Formula.{pierced}
use Rattle.pierce.specs.Beside.{beside_same}
use Rattle.pierce_engine.proofs.word.Goals as goal

pub loop-k-init : goal.loop-k-init
unfolding mask_of
loop-k-init g c = search rules

pub pierces-requires : goal.pierces-requires
pierces-requires g c =
    let w : FaceWithin limits c.face_in-f.result = rw c.face_in-f.ensures (c.requires.rows.1 _) in
    record {
      points = search rules;
      edge = (c.requires.edge.0, beside_same c.face_in-f.ensures (c.requires.edge.1 c.loop-k.k (search rules)));
    }

pub loop-k-preserved : goal.loop-k-preserved
loop-k-preserved g c =
    let e = c.pierces.ensures ∙ ap (pierced _ _ _ _) c.face_in-f.ensures in
    mask_more _ _ (omega arith) c.loop-k.invariant (c.bit.ensures ∙ ap digit e)

pub returns : goal.returns
returns g c = c.loop-k.invariant ∙ ap (mask_of _) (omega arith)
