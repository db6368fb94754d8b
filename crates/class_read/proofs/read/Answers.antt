-- By the form of the reports.
use Rattle.class_read.specs.Totals.{reports}
use borrow.Author.Rules.{rules}
use Rattle.class_read.proofs.read.Goals as goal

pub returns : goal.returns
unfolding reports
returns c = search rules
