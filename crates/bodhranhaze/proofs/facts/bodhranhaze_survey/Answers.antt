-- By the room for facts, then by what the kernel answers.
use Rattle.bodhranhaze.specs.Facts.{too_few, facts_refused, facts_told}
use Rattle.bodhranhaze.proofs.facts.bodhranhaze_survey.Goals as goal

pub returns-then-facts-lt8 : goal.returns-then-facts-lt8
returns-then-facts-lt8 c = search too_few

pub returns-in-Err : goal.returns-in-Err
returns-in-Err c = search facts_refused

pub returns-in-Ok : goal.returns-in-Ok
returns-in-Ok c = search facts_told
