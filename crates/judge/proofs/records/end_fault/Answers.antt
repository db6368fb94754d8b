-- The last mark decides.
use Rattle.std.specs.Prelude.{not}
use Rattle.std.proofs.Math.Path.{ap}
use Rattle.judge.specs.Judge.{end_fault}
use Rattle.judge.specs.Laws.{rules as laws, rule_refused_at}
use Rattle.scene.specs.declared.Refusal.TheVariants.{Mark}
use Rattle.judge.proofs.records.end_fault.Goals as goal

pub returns-then-not-end_marked : goal.returns-then-not-end_marked
unfolding end_fault
returns-then-not-end_marked c = rule_refused_at Mark _ c.last_record.ensures.0 c.end_marked.ensures (ap not c.if-not-end_marked.true)

pub returns : goal.returns
unfolding end_fault
returns c = search laws depth 12
