-- The four lines, of what is read off the survey.
use Rattle.print_report.specs.Read.{head_read}
use Rattle.print_report.proofs.head_read.Goals as goal

pub returns : goal.returns
returns c = search head_read
