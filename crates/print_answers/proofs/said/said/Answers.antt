-- Its words, one after the other.
use Rattle.print.specs.Put.{end_to_end}
use Rattle.print_answers.proofs.said.said.Goals as goal

pub returns : goal.returns
returns c =
    end_to_end c.word-p.ensures (end_to_end c.next_word-q.ensures c.newline.ensures)
