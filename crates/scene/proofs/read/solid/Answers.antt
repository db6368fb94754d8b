-- The header's counts are the solids' numbers.
use Rattle.scene.specs.View.Laws.{counted_a, counted_b}
use borrow.Author.Rules.{rules}
use Rattle.scene.proofs.read.solid.Goals as goal

pub returns-then-k-eq1 : goal.returns-then-k-eq1
returns-then-k-eq1 c = search (counted_a, rules)

pub returns : goal.returns
returns c = search (counted_b, rules)
