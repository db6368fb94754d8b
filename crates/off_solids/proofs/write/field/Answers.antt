-- Of the nearest number that fits.
use Prim.Native.Nat.{◌-◌}
use native.Mathlib.Omega.{arith}
use Rattle.off_solids.specs.Fields.{field_of}
use Rattle.off_items.specs.Laws.{told_le}
use Rattle.off_solids.proofs.write.field.Goals as goal

pub unsigned-requires : goal.unsigned-requires
unsigned-requires c =
    (let h = told_le (c.args.half - 1) c.args.n.size c.at_most.ensures in omega arith, omega arith)

pub returns : goal.returns
returns c =
    (field_of c.args.half c.args.n.minus c.args.n.size c.at_most.ensures c.unsigned.ensures.0, c.unsigned.ensures.1)
