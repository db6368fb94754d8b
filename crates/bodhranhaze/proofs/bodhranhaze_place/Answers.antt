-- The place of the judge's answer.
use Rattle.bodhranhaze.specs.Calls.{refusal_place, by_answer}
use Rattle.bodhranhaze.proofs.bodhranhaze_place.Goals as goal

pub returns : goal.returns
returns c = search (by_answer refusal_place)
