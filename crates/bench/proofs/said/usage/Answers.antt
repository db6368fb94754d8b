-- Its words, one after the other.
use Rattle.print.specs.Put.{end_to_end}
use Rattle.bench.proofs.said.usage.Goals as goal

pub returns : goal.returns
returns c =
    end_to_end c.word-p.ensures (end_to_end c.next_number-q.ensures (end_to_end c.next_word-e.ensures c.newline.ensures))
