-- The tab, and then the number.
use Rattle.print.specs.Put.{end_to_end}
use Rattle.table.proofs.row.field.Goals as goal

pub returns : goal.returns
returns c = end_to_end c.tab-p.ensures c.number.ensures
