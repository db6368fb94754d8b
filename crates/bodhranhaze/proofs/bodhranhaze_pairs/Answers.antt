-- By the two cases of what was listed into one place.
use Rattle.bodhranhaze.specs.Calls.{pairs_are}
use Rattle.bodhranhaze.proofs.bodhranhaze_pairs.Goals as goal

pub returns-in-Ok : goal.returns-in-Ok
returns-in-Ok c = search pairs_are

pub returns-in-Err : goal.returns-in-Err
returns-in-Err c = search pairs_are
