-- The number of the kernel's verdict.
use Rattle.questions.specs.Answers.{verdict_number}
use Rattle.bodhranhaze.specs.Calls.{by_answer}
use Rattle.bodhranhaze.proofs.bodhranhaze_verdict.Goals as goal

pub returns : goal.returns
returns c = search (by_answer verdict_number)
