-- That of the far point, or of a vertex.
use Rattle.judge.specs.Cases.{vertex_weighs}
use Rattle.map_image.proofs.rows.least_weight.Goals as goal

pub returns-else-j-eq0 : goal.returns-else-j-eq0
returns-else-j-eq0 c = vertex_weighs _ c.if-j-eq0.false
