-- `orient::minors::row_minus` meets its contract: each difference is at most the sizes of its two parts. Assumes nothing.
use Rattle.std.proofs.Common.{rules, pos}
use Rattle.laws.specs.Size.{kept, var, less}
use Rattle.orient.specs.Bits.{RowFits, room}
use Rattle.orient.proofs.minors.row_minus.Goals as goal

pub returns : goal.returns
returns c =
    let a : RowFits c.args.a = search rules in
    let b : RowFits c.args.b = search rules in
    λ i.
    record {
      x = kept (less (var a.x) (var b.x) (room c.requires.x)) i;
      y = kept (less (var a.y) (var b.y) (room c.requires.y)) i;
      z = kept (less (var a.z) (var b.z) (room c.requires.z)) i;
      w = pos 0;
    }
