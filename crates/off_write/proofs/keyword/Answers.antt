-- By its two cases.
use Rattle.off_write.specs.Laws.{keyword_put}
use Rattle.off_write.proofs.keyword.Goals as goal

pub returns-then-four : goal.returns-then-four
returns-then-four c = keyword_put c.if-four.true c.word.ensures

pub returns : goal.returns
returns c = keyword_put c.if-four.false c.word-2.ensures
