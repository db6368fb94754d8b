-- The size of the signed number is looked at.
use Rattle.scene.specs.Bytes.{coordinate_at}
use Rattle.judge.proofs.points.coordinate_zero.Goals as goal

pub returns : goal.returns
unfolding coordinate_at
returns c = cc
