-- Three fields.
use Rattle.print.specs.Put.{end_to_end}
use Rattle.table.proofs.row.put_numbers.Goals as goal

pub returns : goal.returns
returns c = end_to_end c.field-p.ensures (end_to_end c.field-q.ensures c.field.ensures)
