-- Its lines, one after the other.
use Rattle.print.specs.Put.{end_to_end}
use Rattle.print_lines.specs.Report.{four_lines}
use Rattle.print_lines.proofs.head.four_lines.Goals as goal

pub returns : goal.returns
returns c =
    four_lines _ _ _ _
    (end_to_end c.header-p.ensures (end_to_end c.verdict_line-q.ensures (end_to_end c.inside-r.ensures c.pairs.ensures)))
