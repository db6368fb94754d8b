-- Each rule that fails decides.
use Rattle.judge.specs.Laws.{rules as laws}
use Rattle.session.specs.Saved.{save_fault}
use Rattle.session.proofs.save.save_fault.Goals as goal

pub returns-then-not-is_whole : goal.returns-then-not-is_whole
unfolding save_fault
returns-then-not-is_whole c = search laws depth 16

pub returns-then-not-at_most : goal.returns-then-not-at_most
unfolding save_fault
returns-then-not-at_most c = search laws depth 16

pub returns : goal.returns
unfolding save_fault
returns c = search laws depth 16
