-- `orient::pick` meets its contract, by its two arms. Assumes nothing.
use borrow.Author.Rules.{rules}
use Rattle.orient.proofs.pick.Goals as goal

pub returns-then-marked : goal.returns-then-marked
returns-then-marked c = rw c.if-marked.true (search rules)

pub returns-else-marked : goal.returns-else-marked
returns-else-marked c = rw c.if-marked.false (search rules)
