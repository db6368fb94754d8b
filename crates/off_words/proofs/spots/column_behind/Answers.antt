-- By its two cases.
use Rattle.off_words.specs.Spots.{turns}
use Rattle.off_words.proofs.spots.column_behind.Goals as goal

pub returns-then-c-eq10 : goal.returns-then-c-eq10
returns-then-c-eq10 c = search turns

pub overflow_add-result : goal.overflow_add-result
overflow_add-result c = search turns

pub returns : goal.returns
returns c = search turns
