-- Each rule that fails decides.
use Rattle.judge.specs.Judge.{header_fault}
use Rattle.judge.specs.Laws.{rules as laws}
use Rattle.judge.proofs.header.header_fault.Goals as goal

pub returns-then-not-opens : goal.returns-then-not-opens
unfolding header_fault
returns-then-not-opens c = search laws depth 12

pub returns-then-not-counts_ok : goal.returns-then-not-counts_ok
unfolding header_fault
returns-then-not-counts_ok c = search laws depth 12

pub returns-then-not-length_ok : goal.returns-then-not-length_ok
unfolding header_fault
returns-then-not-length_ok c = search laws depth 12

pub returns : goal.returns
unfolding header_fault
returns c = search laws depth 12
