-- By its three arms.
use borrow.Author.Rules.{rules}
use Rattle.off_write.specs.Laws.{one_below, one_above, one_is}
use Rattle.off_write.proofs.is_one.Goals as goal

pub returns-then-r-lt1 : goal.returns-then-r-lt1
returns-then-r-lt1 c = one_below _ (search rules) c.if-r-lt1.true

pub returns-then-r-gt1 : goal.returns-then-r-gt1
returns-then-r-gt1 c = one_above _ (search rules) c.if-r-lt1.false c.if-r-gt1.true

pub returns : goal.returns
returns c = one_is _ (search rules) c.if-r-lt1.false c.if-r-gt1.false
