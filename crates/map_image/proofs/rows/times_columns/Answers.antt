-- A product with each column.
use Rattle.laws.specs.Size.{called}
use Rattle.map_image.specs.Columns.{times_columns}
use Rattle.map_image.proofs.rows.times_columns.Goals as goal

pub returns : goal.returns
unfolding times_columns
returns c =
    λ i.
    record {
      x = called c.dot.type_inv c.dot.ensures i;
      y = called c.dot-2.type_inv c.dot-2.ensures i;
      z = called c.dot-3.type_inv c.dot-3.ensures i;
      w = called c.dot-4.type_inv c.dot-4.ensures i;
    }
