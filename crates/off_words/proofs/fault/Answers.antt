-- One line, and the other.
use Rattle.print.specs.Put.{end_to_end}
use Rattle.off_words.proofs.fault.Goals as goal

pub returns : goal.returns
returns c =
    end_to_end c.refused-p.ensures c.words.ensures
