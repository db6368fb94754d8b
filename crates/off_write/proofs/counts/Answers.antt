-- Number after number.
use Rattle.print.specs.Put.{end_to_end}
use Rattle.off_write.proofs.counts.Goals as goal

pub returns : goal.returns
returns c =
    end_to_end c.number-p.ensures (end_to_end c.next_number-q.ensures c.word.ensures)
