-- Its fields, one after the other.
use Rattle.print.specs.Put.{end_to_end}
use Rattle.table.proofs.row.accepted.Goals as goal

pub returns : goal.returns
returns c =
    end_to_end c.tab-a.ensures (end_to_end c.verdict_word-b.ensures
    (end_to_end c.put_numbers-c.ensures (end_to_end c.tab-d.ensures c.newline.ensures)))
