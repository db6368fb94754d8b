-- A minus sign before the size of a negative number, and else the size alone.
use Rattle.print.specs.Loops.{minus_put, plus_put}
use Rattle.print.proofs.signed.Goals as goal

pub returns-then-z-lt0 : goal.returns-then-z-lt0
returns-then-z-lt0 c =
    minus_put c.ranges.z c.size.ensures c.if-z-lt0.true c.byte-p.ensures c.number.ensures

pub returns-else-z-lt0 : goal.returns-else-z-lt0
returns-else-z-lt0 c =
    plus_put c.ranges.z c.size-else-z-lt0.ensures c.if-z-lt0.false c.number-else-z-lt0.ensures
