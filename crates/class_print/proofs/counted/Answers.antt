-- The words, the number and the newline, one after the other.
use Rattle.print.specs.Put.{end_to_end}
use Rattle.class_print.proofs.counted.Goals as goal

pub returns : goal.returns
returns c =
    end_to_end c.word-p.ensures (end_to_end c.next_number-e.ensures c.newline.ensures)
