-- The corners are read, and tested.
use Rattle.judge.specs.Judge.{corners_ok}
use Rattle.judge.proofs.records.corners_ok.Goals as goal

pub returns : goal.returns
unfolding corners_ok
returns c = cc
