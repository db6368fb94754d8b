-- A total that there is, or none.
use mathlib.Core.Path.{sym}
use native.Mathlib.Omega.{arith}
use lib.Seq.{set_out}
use Rattle.class_read.specs.Totals.{plus}
use Rattle.class_read.specs.Branches.{plus_put}
use Rattle.class_read.proofs.add.Goals as goal

pub returns-else-k-totals : goal.returns-else-k-totals
unfolding plus
returns-else-k-totals c = sym (set_out _ _ _ (omega arith))

pub returns-then-k-totals : goal.returns-then-k-totals
returns-then-k-totals c = search plus_put
