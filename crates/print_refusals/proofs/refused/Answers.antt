-- Its words, one after the other.
use Rattle.print.specs.Put.{end_to_end}
use Rattle.print_refusals.specs.Refused.{number_put}
use Rattle.print_refusals.proofs.refused.Goals as goal

pub returns : goal.returns
returns g c =
    end_to_end c.word-p.ensures (end_to_end (number_put c.number.ensures c.next_number-q.ensures)
    (end_to_end (number_put c.place.ensures c.next_number-e.ensures) c.newline.ensures))
