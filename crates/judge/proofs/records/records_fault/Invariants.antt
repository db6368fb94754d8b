-- The first fault of the rest is the first of the whole.
use mathlib.Core.Path.{◌≡◌}
use Rattle.scene.specs.Limits.{limits}
use Rattle.judge.specs.Judge.{first_fault, record_fault, records_fault}
use Rattle.judge.proofs.records.records_fault.Given as goal

abbrev pub invariant-loop-k : goal.invariant-loop-k
invariant-loop-k l = first_fault (record_fault limits l.s) l.k l.e ≡ records_fault limits l.s
