-- By its two cases.
use Rattle.class_print.specs.Sheet.{longer_put, tallied_put}
use Rattle.class_print.proofs.sheet.Goals as goal

pub returns-in-Err : goal.returns-in-Err
returns-in-Err c = longer_put c.in-Err.is c.refused.ensures

pub returns-in-Ok : goal.returns-in-Ok
returns-in-Ok c = search tallied_put
