-- The space, and then the number.
use Rattle.print.specs.Put.{end_to_end}
use Rattle.print.proofs.next_number.Goals as goal

pub returns : goal.returns
returns c =
    end_to_end c.space-p.ensures c.number.ensures
