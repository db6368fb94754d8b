-- The word read, one more written.
use Rattle.light.specs.Light.{more}
use Rattle.light.proofs.count_one.Goals as goal

pub returns : goal.returns
unfolding more
returns c = cc
