-- The name, and what is told of the file.
use Rattle.print_why.specs.Said.{one, and}
use Rattle.table.proofs.row.row.Goals as goal

pub returns-then-whole : goal.returns-then-whole
returns-then-whole c = search (one, and)

pub returns : goal.returns
returns c = search (one, and)
