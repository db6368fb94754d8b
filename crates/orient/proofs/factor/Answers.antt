-- `orient::factor` meets its contract, by its two arms. Assumes nothing.
use mathlib.Core.Path.{sym, ◌∙◌}
use Rattle.orient.specs.Bits.{factor_zero, factor_other, read}
use Rattle.orient.proofs.factor.Goals as goal

pub returns-then-w-eq0 : goal.returns-then-w-eq0
returns-then-w-eq0 c = sym (factor_zero c.ranges.w c.if-w-eq0.true)

pub returns-else-w-eq0 : goal.returns-else-w-eq0
returns-else-w-eq0 c = read c.ranges.w ∙ sym (factor_other c.if-w-eq0.false)
