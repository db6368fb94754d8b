-- By the judge: refused, or the four lines.
use Rattle.questions.specs.Laws.{accepted_so}
use Rattle.print_lines.specs.Report.{head_refused}
use Rattle.print_answers.proofs.reports.head.Goals as goal

pub returns-in-Err : goal.returns-in-Err
returns-in-Err g c = search head_refused

pub survey_head-requires : goal.survey_head-requires
survey_head-requires g c = search accepted_so
