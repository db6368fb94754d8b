use Rattle.laws.specs.Exits.{exits}
use native.Mathlib.Omega.{arith}
use Rattle.judge.specs.Cases.{first_to}
use Rattle.judge.specs.Laws.{first_found, loops}
use Rattle.map_image.specs.Image.{rows_fault}
use Rattle.map_image.proofs.image.rows_fault.Goals as goal

pub loop-j-init : goal.loop-j-init
unfolding rows_fault
loop-j-init c = (omega arith, first_to _ 0 (omega arith))

pub point_fault-requires : goal.point_fault-requires
point_fault-requires c = (c.requires, omega arith)

pub returns-in_err-point_fault : goal.returns-in_err-point_fault
returns-in_err-point_fault c =
    exits c.from_residual.ensures.1 (first_found _ _ _ c.loop-j.invariant.1 (omega arith) c.point_fault.ensures c.in_err-point_fault.was)

pub loop-j-preserved : goal.loop-j-preserved
loop-j-preserved c = search loops

pub returns : goal.returns
returns c = search loops
