-- The mark decides, then the corners.
use Rattle.std.specs.Prelude.{not}
use Rattle.std.proofs.Math.Path.{ap}
use Rattle.judge.specs.Judge.{face_fault}
use Rattle.judge.specs.Laws.{rules as laws, rule_passed, rule_refused_at}
use Rattle.scene.specs.declared.Refusal.TheVariants.{Mark, Corner}
use Rattle.judge.proofs.records.face_fault.Goals as goal

pub returns-then-not-face_marked : goal.returns-then-not-face_marked
unfolding face_fault
returns-then-not-face_marked c = rule_refused_at Mark _ c.face_record.ensures c.face_marked.ensures (ap not c.if-not-face_marked.true)

pub returns-then-not-corners_ok : goal.returns-then-not-corners_ok
unfolding face_fault
returns-then-not-corners_ok c =
    rule_passed _ c.face_marked.ensures (ap not c.if-not-face_marked.false)
    (rule_refused_at Corner _ c.face_record-then-not-corners_ok.ensures c.corners_ok.ensures (ap not c.if-not-corners_ok.true))

pub returns : goal.returns
unfolding face_fault
returns c = search laws depth 12
