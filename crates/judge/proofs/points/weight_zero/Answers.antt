-- The size of the signed byte is looked at.
use Rattle.scene.specs.Bytes.{weight_at}
use Rattle.judge.proofs.points.weight_zero.Goals as goal

pub returns : goal.returns
unfolding weight_at
returns c = cc
