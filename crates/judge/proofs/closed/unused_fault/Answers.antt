-- The test decides.
use Rattle.judge.specs.Judge.{unused_fault}
use Rattle.judge.specs.Laws.{rules as laws}
use Rattle.judge.proofs.closed.unused_fault.Goals as goal

pub returns-then-not-is_used : goal.returns-then-not-is_used
unfolding unused_fault
returns-then-not-is_used c = search laws depth 12

pub returns : goal.returns
unfolding unused_fault
returns c = search laws depth 12
