-- Line after line, and the mean.
use Rattle.print.specs.Put.{end_to_end}
use Rattle.class_print.specs.Sheet.{tallied, mean_put}
use Rattle.class_print.proofs.tallied.Goals as goal

pub returns : goal.returns
unfolding tallied
returns c =
    end_to_end c.verdicts-a.ensures
    (end_to_end c.refused_low-b.ensures
    (end_to_end c.refused_high-c.ensures (mean_put c.mean_of-m.ensures c.mean_line.ensures)))
