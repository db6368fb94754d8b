-- The far point has a mark of its own.
use Rattle.judge.specs.Cases.{far_marked, vertex_marked}
use Rattle.judge.proofs.points.point_marked.Goals as goal

pub returns-then-j-eq0 : goal.returns-then-j-eq0
returns-then-j-eq0 c = far_marked _ _ c.if-j-eq0.true c.two.ensures.0

pub returns : goal.returns
returns c = vertex_marked _ _ c.if-j-eq0.false c.two-2.ensures.0
