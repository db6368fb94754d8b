-- Only the far point is looked at.
use Rattle.judge.specs.Cases.{far_somewhere, vertex_somewhere}
use Rattle.judge.proofs.points.somewhere_ok.Goals as goal

pub returns-then-j-eq0 : goal.returns-then-j-eq0
returns-then-j-eq0 c = far_somewhere _ _ c.if-j-eq0.true c.is_nowhere.ensures

pub returns : goal.returns
returns c = vertex_somewhere _ _ c.if-j-eq0.false
