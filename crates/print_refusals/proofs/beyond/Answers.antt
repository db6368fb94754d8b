-- Its words, one after the other.
use Rattle.print.specs.Put.{end_to_end}
use Rattle.print_refusals.proofs.beyond.Goals as goal

pub returns : goal.returns
returns c =
    end_to_end c.word-p.ensures (end_to_end c.word-q.ensures (end_to_end c.number-r.ensures
    (end_to_end c.word-t.ensures c.next_number.ensures)))
