-- The size of the signed byte is held to the limits.
use Rattle.judge.specs.Judge.{weight_ok}
use Rattle.scene.specs.Bytes.{weight_at}
use Rattle.judge.proofs.points.weight_ok.Goals as goal

pub returns : goal.returns
unfolding weight_ok weight_at
returns c = cc
