-- Its words, one after the other.
use Rattle.print.specs.Put.{end_to_end}
use Rattle.class_print.proofs.mean_line.Goals as goal

pub returns : goal.returns
returns c =
    end_to_end c.word-a.ensures
    (end_to_end c.next_number-b.ensures
    (end_to_end c.next_number-c.ensures (end_to_end c.next_number-d.ensures c.newline.ensures)))
