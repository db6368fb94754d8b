-- With no accepted scene, or divided.
use Rattle.class_tally.proofs.MeanProof.{mean_none, mean_some}
use Rattle.class_tally.proofs.mean_of.Goals as goal

pub returns-then-n-eq0 : goal.returns-then-n-eq0
returns-then-n-eq0 c = search mean_none

pub returns : goal.returns
returns c = search mean_some
