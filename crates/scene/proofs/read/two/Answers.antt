use native.Mathlib.Omega.{arith}
use Rattle.scene.specs.Bytes.{two_at}
use Rattle.scene.specs.Signed.{past}
use borrow.Author.Rules.{rules}
use Rattle.scene.proofs.read.two.Goals as goal

pub returns-then-i-s : goal.returns-then-i-s
unfolding two_at
returns-then-i-s c = search rules

pub returns-else-i-s : goal.returns-else-i-s
unfolding two_at
returns-else-i-s c = (past c.args.s.now c.args.i c.if-i-s.false, omega arith)
