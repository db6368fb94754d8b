use native.Mathlib.Omega.{arith}
use Rattle.judge.specs.Cases.{first_to}
use mathlib.Core.Path.{sym}
use Rattle.judge.specs.Laws.{loops}
use Rattle.judge.specs.Judge.{edges_fault}
use Rattle.judge.proofs.closed.edges_fault.Goals as goal

pub returns-then-none_odd : goal.returns-then-none_odd
returns-then-none_odd c = sym (c.none_odd.ensures c.if-none_odd.true)

pub loop-i-init : goal.loop-i-init
unfolding edges_fault
loop-i-init c = first_to _ 0 (omega arith)

pub edge_fault-requires : goal.edge_fault-requires
edge_fault-requires c =
    record { face = (omega arith, c.requires.faces.0 _ (omega arith)); words = c.requires.words }

pub loop-i-preserved : goal.loop-i-preserved
loop-i-preserved c = search loops

pub returns-in_err-edge_fault : goal.returns-in_err-edge_fault
returns-in_err-edge_fault c = search loops

pub returns : goal.returns
returns c = search loops
