-- A record is a point, a face, or the last one.
use native.Mathlib.Omega.{arith}
use mathlib.Core.Path.{sym, ap, ◌∙◌}
use Rattle.judge.specs.Judge.{face_fault}
use Rattle.judge.specs.Cases.{record_point, record_face, record_end}
use Rattle.judge.proofs.records.record_fault.Goals as goal

pub returns-then-k-v : goal.returns-then-k-v
returns-then-k-v c = c.point_fault.ensures ∙ sym (record_point _ _ _ (omega arith))

pub returns-then-k-last_record : goal.returns-then-k-last_record
returns-then-k-last_record c = c.face_fault.ensures ∙ ap (face_fault _) (omega arith) ∙ sym (record_face _ _ _ (omega arith) (omega arith))

pub returns : goal.returns
returns c = c.end_fault.ensures ∙ sym (record_end _ _ _ (omega arith))
