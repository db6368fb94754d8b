-- Part by part.
use Rattle.off_solids.specs.Bytes.{points_grown}
use Rattle.off_solids.proofs.whole.put_points.Goals as goal

pub returns : goal.returns
returns c = search points_grown
