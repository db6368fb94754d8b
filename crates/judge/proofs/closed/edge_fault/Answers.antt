-- The test decides.
use Rattle.std.specs.Prelude.{not}
use Rattle.std.proofs.Math.Path.{ap}
use Rattle.judge.specs.Judge.{edge_fault}
use Rattle.judge.specs.Laws.{rules as laws, rule_refused_at}
use Rattle.scene.specs.declared.Refusal.TheVariants.{Edge}
use Rattle.judge.proofs.closed.edge_fault.Goals as goal

pub returns-then-not-is_closed_at : goal.returns-then-not-is_closed_at
unfolding edge_fault
returns-then-not-is_closed_at c = rule_refused_at Edge _ c.face_record.ensures c.is_closed_at.ensures (ap not c.if-not-is_closed_at.true)

pub returns : goal.returns
unfolding edge_fault
returns c = search laws depth 12
