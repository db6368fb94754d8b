-- Part by part.
use Rattle.off_solids.specs.Bytes.{faces_grown}
use Rattle.off_solids.proofs.whole.put_all_faces.Goals as goal

pub returns : goal.returns
returns c = search faces_grown
