-- By the two cases of the count.
use Rattle.bodhranhaze.specs.Calls.{inside_is}
use Rattle.bodhranhaze.proofs.bodhranhaze_inside.Goals as goal

pub returns-in-Ok : goal.returns-in-Ok
returns-in-Ok c = search inside_is

pub returns-in-Err : goal.returns-in-Err
returns-in-Err c = search inside_is
