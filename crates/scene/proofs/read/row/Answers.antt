use native.Mathlib.Omega.{arith}
use mathlib.Core.Path.{sym, ◌∙◌}
use Rattle.scene.specs.Read.{far_is, row_none, row_zero, row_is}
use Rattle.scene.proofs.read.row.Goals as goal

pub returns-then-i-n : goal.returns-then-i-n
returns-then-i-n c = c.row_at.ensures ∙ sym (far_is _ (omega arith))

pub returns-then-i-n-2 : goal.returns-then-i-n-2
returns-then-i-n-2 c =
    sym (row_none c.args.s.now c.args.i (omega arith))

pub returns-then-i-eq0 : goal.returns-then-i-eq0
returns-then-i-eq0 c =
    sym (row_zero c.args.s.now {i = c.args.i} (omega arith))

pub returns : goal.returns
returns c = c.row_at-2.ensures ∙ sym (row_is _ _ (omega arith) (omega arith))
