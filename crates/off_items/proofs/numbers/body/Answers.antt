-- Behind the sign, where there is one.
use Rattle.off_items.specs.Laws.{body_behind, body_there}
use Rattle.off_items.proofs.numbers.body.Goals as goal

pub returns-then-minus_at : goal.returns-then-minus_at
returns-then-minus_at c = search body_behind

pub returns : goal.returns
returns c = search body_there
