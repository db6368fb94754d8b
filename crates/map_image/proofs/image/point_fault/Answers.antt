-- The row that is tested is the image's.
use mathlib.Core.Path.{ap, ◌∙◌}
use native.Mathlib.Omega.{arith}
use Rattle.clean.specs.Scene.{rows_fit}
use Rattle.map_image.specs.Image.{row_fault, point_fault}
use Rattle.map_image.proofs.image.point_fault.Goals as goal

pub image_row-requires : goal.image_row-requires
image_row-requires c = c.requires

pub row_fault-requires : goal.row_fault-requires
row_fault-requires c =
    let n = rows_fit c.args.s.now c.requires.0.accepted in
    omega arith

pub returns : goal.returns
unfolding point_fault
returns c = c.row_fault.ensures ∙ ap (row_fault _) c.image_row.ensures
