-- Field by field: each minor of the directions, and their determinant with the row.
use borrow.Author.Rules.{rules}
use Rattle.laws.specs.Size.{called}
use Rattle.orient.specs.Bits.{RowFits, crossed}
use Rattle.survey_sides.proofs.units.plane_from_directions.Goals as goal

pub returns : goal.returns
returns c =
    let u : RowFits c.args.u = search rules in
    let v : RowFits c.args.v = search rules in
    λ i.
    record {
      x = crossed u.y u.z v.y v.z c.minor.type_inv c.minor.ensures i;
      y = crossed u.x u.z v.x v.z c.minor-2.type_inv c.minor-2.ensures i;
      z = crossed u.x u.y v.x v.y c.minor-3.type_inv c.minor-3.ensures i;
      w = called c.triple_product.type_inv c.triple_product.ensures i;
    }
