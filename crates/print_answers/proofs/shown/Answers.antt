-- By its refusal; else the bytes of the record.
use Rattle.print_answers.specs.Laws.{shown_refused, shown_all}
use Rattle.print_answers.proofs.shown.Goals as goal

pub returns-in-Err : goal.returns-in-Err
returns-in-Err c =
    shown_refused _ _ c.record_refusal-j.ensures c.in-Err.is c.refused.ensures

pub returns-in-Ok : goal.returns-in-Ok
returns-in-Ok c =
    shown_all _ _ c.record_refusal-j.ensures c.in-Ok.is c.record.ensures c.record-in-Ok.ensures
