-- Where, and what stands there.
use Rattle.print.specs.Put.{end_to_end}
use Rattle.off_words.proofs.fault_at.Goals as goal

pub returns : goal.returns
returns c =
    end_to_end c.spotted-p.ensures c.standing.ensures
