-- By the corners that are read.
use Rattle.kernel.proofs.points.is_clear_of.Goals as goal

pub returns : goal.returns
returns c = cc
