use native.Mathlib.Omega.{arith}
use Rattle.judge.specs.Cases.{first_to}
use Rattle.judge.specs.Laws.{loops}
use Rattle.judge.specs.Judge.{unuseds_fault}
use Rattle.judge.proofs.closed.unuseds_fault.Goals as goal

pub loop-p-init : goal.loop-p-init
unfolding unuseds_fault
loop-p-init c = first_to _ 1 (omega arith)

pub unused_fault-requires : goal.unused_fault-requires
unused_fault-requires c =
    record { words = c.requires.words; point = (omega arith, c.requires.vertices.0, c.requires.vertices.1) }

pub returns-in_err-unused_fault : goal.returns-in_err-unused_fault
returns-in_err-unused_fault c = search loops

pub loop-p-preserved : goal.loop-p-preserved
loop-p-preserved c = search loops

pub returns : goal.returns
returns c = search loops
