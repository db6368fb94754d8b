use Rattle.laws.specs.Size.{called}
use Rattle.scene.proofs.read.row_at.Goals as goal

pub returns : goal.returns
returns c =
    let start = c.point_start-at.ensures in
    λ i.
    record {
      x = called c.coordinate.type_inv (simp start at c.coordinate.ensures) i;
      y = called c.coordinate-2.type_inv (simp start at c.coordinate-2.ensures) i;
      z = called c.coordinate-3.type_inv (simp start at c.coordinate-3.ensures) i;
      w = called c.weight.type_inv (simp start at c.weight.ensures) i;
    }
