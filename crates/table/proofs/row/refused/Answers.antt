-- Its words, one after the other.
use Rattle.print.specs.Put.{end_to_end}
use Rattle.table.specs.Laws.{number_is}
use Rattle.table.proofs.row.refused.Goals as goal

pub returns : goal.returns
returns c =
    end_to_end c.word-a.ensures (end_to_end (number_is c.number.ensures c.next_number-b.ensures)
    (end_to_end (number_is c.place.ensures c.next_number-c.ensures) c.word.ensures))
