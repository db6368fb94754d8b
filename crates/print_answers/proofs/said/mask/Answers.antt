-- By its cases.
use Rattle.print_lines.specs.Laws.{by_case}
use Rattle.print_lines.specs.Lines.{mask_line}
use Rattle.print_answers.proofs.said.mask.Goals as goal

pub returns-in-Err : goal.returns-in-Err
returns-in-Err c = by_case mask_line c.in-Err.is c.refused.ensures

pub returns-in-Ok : goal.returns-in-Ok
returns-in-Ok c = by_case mask_line c.in-Ok.is c.faces.ensures
