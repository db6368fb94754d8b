-- From half on the number stands for a negative one, whose size is what is left to twice half.
use native.Mathlib.Omega.{arith}
use borrow.Author.Tests.{lt-ltb, le-ltb}
use Rattle.judge.proofs.points.size.Goals as goal

pub returns-then-n-half : goal.returns-then-n-half
returns-then-n-half c = simp (lt-ltb _ _ c.if-n-half.true)

pub returns-else-n-half : goal.returns-else-n-half
returns-else-n-half c = simp (le-ltb _ _ c.if-n-half.false) (omega arith)
