-- By the tests.
use Rattle.table.specs.Laws.{shown_low, shown_delete, shown_same}
use Rattle.table.proofs.row.shown_byte.Goals as goal

pub returns-then-b-lt32 : goal.returns-then-b-lt32
returns-then-b-lt32 c = search shown_low

pub returns-then-b-eq127 : goal.returns-then-b-eq127
returns-then-b-eq127 c = search shown_delete

pub returns : goal.returns
returns c = search shown_same
