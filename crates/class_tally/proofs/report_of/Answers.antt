-- A longer block is refused; any other is tallied.
use Rattle.class_tally.specs.Counting.{report_longer, report_tallied}
use Rattle.class_tally.proofs.report_of.Goals as goal

pub returns-then-block-gt-MOST_BYTES : goal.returns-then-block-gt-MOST_BYTES
returns-then-block-gt-MOST_BYTES c = search report_longer

pub returns : goal.returns
returns c = search report_tallied
