-- What it is about, and the rule.
use Rattle.print.specs.Put.{end_to_end}
use Rattle.off_words.specs.Records.{refusal_put}
use Rattle.off_words.proofs.records.words.Goals as goal

pub returns : goal.returns
returns c =
    refusal_put _ _ c.args.r c.number-n.ensures c.place.ensures
    (end_to_end c.thing-p.ensures c.rule.ensures)
