-- Its words, one after the other.
use Rattle.print.specs.Put.{end_to_end}
use Rattle.print_refusals.proofs.weight.Goals as goal

pub returns : goal.returns
returns c =
    end_to_end c.beyond-p.ensures c.word.ensures
