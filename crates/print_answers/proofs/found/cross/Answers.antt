-- Its words, one after the other.
use Rattle.print.specs.Put.{end_to_end}
use Rattle.print_answers.proofs.found.cross.Goals as goal

pub returns : goal.returns
returns c =
    end_to_end c.word-p.ensures (end_to_end c.next_number-q.ensures
    (end_to_end c.next_number-r.ensures (end_to_end c.next_number-e.ensures c.newline.ensures)))
