-- The rows of what was poured off the survey into the lent list.
use Rattle.print_lines.specs.Report.{rows_read, lent_read}
use Rattle.print_report.proofs.part_read.Goals as goal

pub returns : goal.returns
returns c = record { rows = search rows_read; lent = search lent_read }
