-- Field by field.
use borrow.Author.Rules.{rules}
use Rattle.laws.specs.Size.{var}
use Rattle.orient.specs.Bits.{RowFits, summed}
use Rattle.survey_sides.proofs.slopes.added.Goals as goal

pub returns : goal.returns
returns c =
    let p : RowFits c.args.a = search rules in
    let q : RowFits c.args.b = search rules in
    let r : RowFits c.args.c = search rules in
    λ i.
    record {
      x = summed (var p.x) (var q.x) (var r.x) c.sum.type_inv c.sum.ensures i;
      y = summed (var p.y) (var q.y) (var r.y) c.sum-2.type_inv c.sum-2.ensures i;
      z = summed (var p.z) (var q.z) (var r.z) c.sum-3.type_inv c.sum-3.ensures i;
      w = summed (var p.w) (var q.w) (var r.w) c.sum-4.type_inv c.sum-4.ensures i;
    }
