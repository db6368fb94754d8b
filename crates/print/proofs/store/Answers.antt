-- A store beyond the buffer would leave it, and there is none.
use native.Mathlib.Omega.{arith}
use mathlib.Core.Path.{sym}
use lib.Seq.{set_out}
use Rattle.print.proofs.store.Goals as goal

pub returns-else-i-out : goal.returns-else-i-out
returns-else-i-out c = sym (set_out _ _ _ (omega arith))

pub returns-else-at-out : goal.returns-else-at-out
returns-else-at-out c = sym (set_out _ _ _ (omega arith))
