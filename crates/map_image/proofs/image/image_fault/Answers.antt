-- Each test in its order.
use Rattle.laws.specs.Exits.{exits}
use Rattle.map_image.proofs.Faults.{fault_scene, fault_entry, fault_singular, fault_row, fault_room, fault_none}
use Rattle.std.proofs.Common.{ap, not}
use Rattle.map_image.proofs.Faults.{entries_small, mappable}
use Rattle.map_image.proofs.image.image_fault.Goals as goal

pub returns-in_err-judge : goal.returns-in_err-judge
returns-in_err-judge c = exits c.from_residual.ensures.1 (fault_scene _ _ _ c.judge.ensures c.in_err-judge.was)

pub returns-then-not-entries_ok : goal.returns-then-not-entries_ok
returns-then-not-entries_ok c = search (fault_entry, c.in_ok-judge.was)

pub is_singular-requires : goal.is_singular-requires
is_singular-requires c = search entries_small

pub returns-then-is_singular : goal.returns-then-is_singular
returns-then-is_singular c = search (fault_singular, c.in_ok-judge.was) depth 8

pub rows_fault-requires : goal.rows_fault-requires
rows_fault-requires c = search (mappable, c.in_ok-judge.was)

pub returns-in_err-rows_fault : goal.returns-in_err-rows_fault
returns-in_err-rows_fault c =
    exits c.from_residual-in_err-rows_fault.ensures.1
    (fault_row _ _ _ c.judge.ensures c.in_ok-judge.was c.entries_ok.ensures (ap not c.if-not-entries_ok.false) c.is_singular.ensures
    c.if-is_singular.false c.rows_fault.ensures c.in_err-rows_fault.was)

pub returns-then-room-s : goal.returns-then-room-s
returns-then-room-s c = search (fault_room, c.in_ok-judge.was, c.in_ok-rows_fault.was) depth 12

pub returns : goal.returns
returns c = search (fault_none, c.in_ok-judge.was, c.in_ok-rows_fault.was) depth 12
