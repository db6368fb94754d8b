-- Its words, one after the other.
use Rattle.print.specs.Put.{end_to_end}
use Rattle.print_lines.specs.Rows.{record_put}
use Rattle.print_lines.proofs.rows.record.Goals as goal

pub returns : goal.returns
returns c =
    record_put _ (end_to_end c.word-p.ensures (end_to_end c.bytes-q.ensures c.newline.ensures))
