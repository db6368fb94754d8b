use mathlib.Core.Path.{ap}
use lib.Dec.{eqb}
use Rattle.session.specs.Session.{is_whole}
use Rattle.session.proofs.faults.is_whole.Goals as goal

pub returns : goal.returns
unfolding is_whole
returns c = ap (eqb _) c.length_of.ensures.0
