use mathlib.Core.Path.{refl, ap, ◌∙◌}
use native.Mathlib.Omega.{arith}
use lib.IntN.{ℤ, pos}
use lib.Signed.{lt_z}
use Rattle.laws.specs.Mask.{digit}
use Rattle.laws.specs.Size.{called}
use Rattle.scene.specs.Arrays.{row_in, face_in}
use Rattle.survey_sides.specs.Sides.{mask_begun, mask_under}
use Rattle.survey_sides.specs.Slopes.{is_zero, zero_read}
use Rattle.survey_sides.specs.Ties.{leads, flat}
use Rattle.survey_sides.proofs.digits.digits_at.Goals as goal

pub loop-k-init : goal.loop-k-init
loop-k-init c =
    let face = face_in c.args.corners.now in (
      mask_begun (leads (row_in c.args.rows.now) c.args.t) face c.args.first c.args.count,
      mask_begun (flat (row_in c.args.rows.now) c.args.t) face c.args.first c.args.count,
    )

pub loop-k-preserved : goal.loop-k-preserved
loop-k-preserved c =
    let face = face_in c.args.corners.now in (
      mask_under (leads (row_in c.args.rows.now) c.args.t) face c.args.first c.args.count c.loop-k.k (omega arith) (omega arith) (omega arith)
          c.loop-k.invariant.0 (c.bit.ensures ∙ ap (λ (z : ℤ). digit (lt_z z (pos 0))) (called c.side-d.type_inv c.side-d.ensures)),
      mask_under (flat (row_in c.args.rows.now) c.args.t) face c.args.first c.args.count c.loop-k.k (omega arith) (omega arith) (omega arith)
          c.loop-k.invariant.1 (c.bit-in-loop-k.ensures
          ∙ ap digit (zero_read {n = c.side-d.result} (called {z = c.side-d.result} c.side-d.type_inv refl) ∙ ap is_zero c.side-d.ensures)),
    )
