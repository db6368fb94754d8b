use Rattle.bodhranhaze.specs.Moves.{answered_by}
use Rattle.bodhranhaze.proofs.moves.bodhranhaze_reverse.Goals as goal

pub returns : goal.returns
returns c = answered_by _ _ c.reverse-j.ensures c.number_of.ensures
