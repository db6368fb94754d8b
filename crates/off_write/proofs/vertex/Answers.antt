-- By its two cases.
use Rattle.off_write.specs.Laws.{row_put}
use Rattle.off_write.proofs.vertex.Goals as goal

pub returns-then-is_four : goal.returns-then-is_four
returns-then-is_four c = row_put _ c.if-is_four.true c.four.ensures

pub returns : goal.returns
returns c = row_put _ c.if-is_four.false c.three.ensures
