-- Its words, one after the other.
use Rattle.print.specs.Put.{end_to_end}
use Rattle.off_words.proofs.records.of_second.Goals as goal

pub returns : goal.returns
returns c =
    end_to_end c.word-p.ensures (end_to_end c.next_number-q.ensures c.word.ensures)
