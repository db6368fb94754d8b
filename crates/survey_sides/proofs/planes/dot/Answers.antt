-- `sides::planes::dot` meets its contract: the four products are formed two by two. Assumes nothing.
use borrow.Author.Rules.{rules}
use native.Mathlib.Omega.{arith}
use Rattle.laws.specs.Size.{fit, kept}
use Rattle.orient.specs.Bits.{RowFits, minor_ask}
use Rattle.survey_sides.specs.Bits.{dot_held}
use Rattle.survey_sides.proofs.planes.dot.Goals as goal

pub minor-requires : goal.minor-requires
minor-requires c =
    let p-fits : RowFits c.args.p = search rules in
    let t-fits : RowFits c.args.t = search rules in
    minor_ask p-fits.w p-fits.z t-fits.z t-fits.w (omega (arith, c.requires))

pub minor-requires-2 : goal.minor-requires-2
minor-requires-2 c =
    let p-fits : RowFits c.args.p = search rules in
    let t-fits : RowFits c.args.t = search rules in
    minor_ask p-fits.y p-fits.x t-fits.x t-fits.y (omega (arith, c.requires))

pub overflow_add-result : goal.overflow_add-result
overflow_add-result c =
    let p-fits : RowFits c.args.p = search rules in
    let t-fits : RowFits c.args.t = search rules in
    fit (dot_held p-fits t-fits c.requires c.minor.type_inv c.minor.ensures c.minor-2.type_inv c.minor-2.ensures)

pub returns : goal.returns
returns c =
    let p-fits : RowFits c.args.p = search rules in
    let t-fits : RowFits c.args.t = search rules in
    kept (dot_held p-fits t-fits c.requires c.minor.type_inv c.minor.ensures c.minor-2.type_inv c.minor-2.ensures)
