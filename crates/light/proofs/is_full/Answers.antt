-- The length, then the sum.
use Rattle.light.specs.Cases.{wrong_length, by_sum}
use Rattle.light.proofs.is_full.Goals as goal

pub returns-then-counts-ne16 : goal.returns-then-counts-ne16
returns-then-counts-ne16 c = search wrong_length

pub returns : goal.returns
returns c = search by_sum
