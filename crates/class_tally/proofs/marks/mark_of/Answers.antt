-- By the survey: a refusal, or what was found.
use Rattle.class_tally.specs.Counting.{mark_refused, mark_told}
use Rattle.class_tally.proofs.marks.mark_of.Goals as goal

pub returns-in-Err : goal.returns-in-Err
returns-in-Err c = search mark_refused

pub returns-in-Ok : goal.returns-in-Ok
returns-in-Ok c = search mark_told
