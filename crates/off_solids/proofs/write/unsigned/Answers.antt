-- Zero, below it, above it.
use native.Mathlib.Omega.{arith}
use Rattle.off_solids.specs.Fields.{unsigned_zero, unsigned_under, unsigned_above}
use Rattle.off_solids.proofs.write.unsigned.Goals as goal

pub returns-then-m-eq0 : goal.returns-then-m-eq0
returns-then-m-eq0 c = (unsigned_zero c.args.half c.args.minus _ (omega arith), omega arith)

pub returns-then-minus : goal.returns-then-minus
returns-then-minus c = (unsigned_under c.args.half _ c.if-minus.true c.if-m-eq0.false, omega arith)

pub returns : goal.returns
returns c = (unsigned_above c.args.half _ c.if-minus.false, omega arith)
