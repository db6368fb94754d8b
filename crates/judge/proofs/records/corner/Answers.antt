-- The corners stand behind the mark of the face.
use Rattle.scene.specs.Tables.{corner_at}
use Rattle.judge.proofs.records.corner.Goals as goal

pub returns : goal.returns
unfolding corner_at
returns c = (cc, c.byte.ensures.1)
