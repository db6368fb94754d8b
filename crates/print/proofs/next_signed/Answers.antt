-- The space, and then the number.
use Rattle.print.specs.Put.{end_to_end}
use Rattle.print.specs.Loops.{signed_put}
use Rattle.print.proofs.next_signed.Goals as goal

pub returns : goal.returns
returns c =
    end_to_end c.space-p.ensures (signed_put c.ranges.z c.signed.ensures)
