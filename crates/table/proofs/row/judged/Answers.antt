-- By the survey: a refusal and its words, or what was found.
use Rattle.print_why.specs.Said.{one, and}
use Rattle.table.proofs.row.judged.Goals as goal

pub returns-in-Err : goal.returns-in-Err
returns-in-Err c = search (one, and)

pub returns-in-Ok : goal.returns-in-Ok
returns-in-Ok c = search (one, and)
