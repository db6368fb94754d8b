-- Its words, one after the other.
use Rattle.print.specs.Put.{end_to_end}
use Rattle.off_write.specs.Laws.{number_put}
use Rattle.off_write.proofs.triangle.Goals as goal

pub returns : goal.returns
returns c =
    end_to_end c.word-p.ensures
    (end_to_end (number_put c.from_zero.ensures c.next_number-q.ensures)
    (end_to_end (number_put c.from_zero-2.ensures c.next_number-r.ensures)
    (end_to_end (number_put c.from_zero-3.ensures c.next_number-e.ensures) c.newline.ensures)))
