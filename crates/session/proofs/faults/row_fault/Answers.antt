-- Each rule that fails decides, in the order of the table.
use Rattle.judge.specs.Laws.{rules as laws}
use Rattle.session.specs.Session.{row_fault}
use Rattle.session.proofs.faults.row_fault.Goals as goal

pub returns-then-not-at_most : goal.returns-then-not-at_most
unfolding row_fault
returns-then-not-at_most c = search laws depth 16

pub returns-then-not-at_most-2 : goal.returns-then-not-at_most-2
unfolding row_fault
returns-then-not-at_most-2 c = search laws depth 16

pub returns-then-not-at_most-3 : goal.returns-then-not-at_most-3
unfolding row_fault
returns-then-not-at_most-3 c = search laws depth 16

pub returns-then-not-is_within : goal.returns-then-not-is_within
unfolding row_fault
returns-then-not-is_within c = search laws depth 16

pub returns : goal.returns
unfolding row_fault
returns c = search laws depth 16
