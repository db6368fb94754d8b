-- Each column is made of the four rows.
use Rattle.map_image.proofs.rows.columns.Goals as goal

pub returns : goal.returns
returns c =
    λ i. record { x = c.column_x.ensures i; y = c.column_y.ensures i; z = c.column_z.ensures i; w = c.column_w.ensures i }
