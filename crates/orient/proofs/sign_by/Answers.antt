-- `orient::sign_by` meets its contract: c0 tells the sign, and where it is zero the tie does. Assumes nothing.
use Rattle.scene.specs.Arrays.{row_in}
use Rattle.orient.specs.Bits.{sign_first}
use Rattle.orient.proofs.sign_by.Goals as goal

pub returns-then-t0-ne0 : goal.returns-then-t0-ne0
returns-then-t0-ne0 c =
    sign_first (row_in c.args.rows.now) c.args.a c.args.b c.args.c c.args.d c.ranges.t0.sfits c.requires.first c.if-t0-ne0.true
