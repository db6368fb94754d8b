use mathlib.Core.Path.{refl, ap, ◌∙◌}
use native.Mathlib.Omega.{arith}
use lib.ListN.{length}
use Rattle.laws.specs.Filled.{filled, filled_more}
use Rattle.scene.specs.Write.{row_put}
use Rattle.scene.specs.Written.{row_length}
use Rattle.map_image.specs.Ready.{point_room, row_fits}
use Rattle.map_image.proofs.image.put_rows.Goals as goal

pub loop-j-init : goal.loop-j-init
unfolding filled
loop-j-init c = (omega arith, refl, refl)

pub put_row-requires : goal.put_row-requires
put_row-requires c =
    let r = point_room c.args.s.now c.requires.0.accepted c.loop-j.j (omega arith) in
    (row_fits _ _ c.requires.1 c.loop-j.j (omega arith) c.image_row.ensures, omega arith)

pub loop-j-preserved : goal.loop-j-preserved
loop-j-preserved c = (
  c.loop-j.invariant.0,
  c.put_row.ensures ∙ filled_more row_put _ _ _ c.loop-j.invariant.1 c.image_row.ensures,
  ap length c.put_row.ensures ∙ row_length _ _ _ ∙ c.loop-j.invariant.2,
)
