-- Line after line.
use Rattle.print.specs.Put.{end_to_end}
use Rattle.class_print.proofs.verdicts.Goals as goal

pub returns : goal.returns
returns c =
    end_to_end c.counted-a.ensures
    (end_to_end c.counted-b.ensures (end_to_end c.counted-c.ensures (end_to_end c.counted-d.ensures c.counted.ensures)))
