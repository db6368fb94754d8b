-- Its words, one after the other.
use Rattle.print.specs.Put.{end_to_end}
use Rattle.off_words.proofs.stands.quoted.Goals as goal

pub returns : goal.returns
returns c =
    end_to_end c.word-p.ensures (end_to_end c.shown-q.ensures c.word.ensures)
