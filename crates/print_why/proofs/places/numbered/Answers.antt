-- Its parts, one after the other.
use Rattle.print_why.specs.Said.{one, and}
use Rattle.print_why.proofs.places.numbered.Goals as goal

pub returns-then-n-a : goal.returns-then-n-a
returns-then-n-a c = search (one, and)

pub returns : goal.returns
returns c = search (one, and)
