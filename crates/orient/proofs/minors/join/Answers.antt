-- `orient::minors::join` meets its contract: each minor is formed of entries that fit an i64. Assumes nothing.
use Rattle.std.proofs.Common.{rules}
use Rattle.orient.specs.Bits.{RowFits, crossed}
use Rattle.orient.proofs.minors.join.Goals as goal

pub returns : goal.returns
returns c =
    let a : RowFits c.args.a = search rules in
    let b : RowFits c.args.b = search rules in
    λ i.
    record {
      xy = crossed a.x a.y b.x b.y c.minor.type_inv c.minor.ensures i;
      xz = crossed a.x a.z b.x b.z c.minor-2.type_inv c.minor-2.ensures i;
      xw = crossed a.x a.w b.x b.w c.minor-3.type_inv c.minor-3.ensures i;
      yz = crossed a.y a.z b.y b.z c.minor-4.type_inv c.minor-4.ensures i;
      yw = crossed a.y a.w b.y b.w c.minor-5.type_inv c.minor-5.ensures i;
      zw = crossed a.z a.w b.z b.w c.minor-6.type_inv c.minor-6.ensures i;
    }
