-- The number of the judge's answer.
use Rattle.bodhranhaze.specs.Calls.{refusal_number, by_answer}
use Rattle.bodhranhaze.proofs.bodhranhaze_refusal.Goals as goal

pub returns : goal.returns
returns c = search (by_answer refusal_number)
