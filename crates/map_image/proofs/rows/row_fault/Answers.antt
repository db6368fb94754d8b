-- The coordinates decide before the weight.
use Rattle.judge.specs.Laws.{rules}
use Rattle.map_image.specs.Image.{row_fault}
use Rattle.map_image.proofs.rows.row_fault.Goals as goal

pub returns-then-not-coordinates_ok : goal.returns-then-not-coordinates_ok
unfolding row_fault
returns-then-not-coordinates_ok c = search rules depth 16

pub returns-then-not-weight_ok : goal.returns-then-not-weight_ok
unfolding row_fault
returns-then-not-weight_ok c = search rules depth 16

pub returns : goal.returns
unfolding row_fault
returns c = search rules depth 16
