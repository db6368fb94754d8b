-- Each rule that fails decides, in the order of the table.
use Rattle.judge.specs.Judge.{point_fault}
use Rattle.judge.specs.Laws.{rules as laws}
use Rattle.judge.proofs.points.point_fault.Goals as goal

pub returns-then-not-point_marked : goal.returns-then-not-point_marked
unfolding point_fault
returns-then-not-point_marked c = search laws depth 16

pub returns-then-not-coordinate_ok : goal.returns-then-not-coordinate_ok
unfolding point_fault
returns-then-not-coordinate_ok c = search laws depth 16

pub returns-then-not-coordinate_ok-2 : goal.returns-then-not-coordinate_ok-2
unfolding point_fault
returns-then-not-coordinate_ok-2 c = search laws depth 16

pub returns-then-not-coordinate_ok-3 : goal.returns-then-not-coordinate_ok-3
unfolding point_fault
returns-then-not-coordinate_ok-3 c = search laws depth 16

pub returns-then-not-weight_ok : goal.returns-then-not-weight_ok
unfolding point_fault
returns-then-not-weight_ok c = search laws depth 16

pub returns-then-not-somewhere_ok : goal.returns-then-not-somewhere_ok
unfolding point_fault
returns-then-not-somewhere_ok c = search laws depth 16

pub returns : goal.returns
unfolding point_fault
returns c = search laws depth 16
