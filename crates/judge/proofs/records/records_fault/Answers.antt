use native.Mathlib.Omega.{arith}
use Rattle.judge.specs.Cases.{first_to}
use Rattle.judge.specs.Laws.{loops}
use Rattle.judge.specs.Judge.{records_fault}
use Rattle.judge.proofs.records.records_fault.Goals as goal

pub loop-k-init : goal.loop-k-init
unfolding records_fault
loop-k-init c = first_to _ 1 (omega arith)

pub record_fault-requires : goal.record_fault-requires
record_fault-requires c = (omega arith, omega arith)

pub loop-k-preserved : goal.loop-k-preserved
loop-k-preserved c = search loops

pub returns-in_err-record_fault : goal.returns-in_err-record_fault
returns-in_err-record_fault c = search loops

pub returns : goal.returns
returns c = search loops
