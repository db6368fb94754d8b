-- The size of the signed number is held to the limit.
use Rattle.judge.specs.Judge.{coordinate_ok}
use Rattle.scene.specs.Bytes.{coordinate_at}
use Rattle.judge.proofs.points.coordinate_ok.Goals as goal

pub returns : goal.returns
unfolding coordinate_ok coordinate_at
returns c = cc
