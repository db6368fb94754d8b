-- `orient::minors::det_of_lines` meets its contract: the six products are formed three by three. Assumes nothing.
use Rattle.std.proofs.Common.{rules}
use Rattle.laws.specs.Size.{fit, kept}
use Rattle.orient.specs.Bits.{LineFits, met}
use Rattle.orient.proofs.minors.det_of_lines.Goals as goal

pub overflow_add-result : goal.overflow_add-result
overflow_add-result c =
    let l : LineFits c.args.l = search rules in
    let m : LineFits c.args.m = search rules in
    fit (met l m c.requires c.alternating.ensures c.alternating-2.ensures)

pub returns : goal.returns
returns c =
    let l : LineFits c.args.l = search rules in
    let m : LineFits c.args.m = search rules in
    kept (met l m c.requires c.alternating.ensures c.alternating-2.ensures)
