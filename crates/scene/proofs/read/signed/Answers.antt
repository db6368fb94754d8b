use native.Mathlib.Omega.{arith}
use mathlib.Core.Path.{refl}
use Prim.Native.Nat.{◌+◌, ◌-◌}
use Rattle.scene.specs.Signed.{negated_fits, read_low, read_high}
use Rattle.scene.proofs.read.signed.Goals as goal

pub overflow_sub-result-else-n-half : goal.overflow_sub-result-else-n-half
overflow_sub-result-else-n-half c = negated_fits (c.args.half + c.args.half - c.args.n) (omega arith) (omega arith)

pub returns-then-n-half : goal.returns-then-n-half
returns-then-n-half c = read_low c.args.half refl (omega arith) c.if-n-half.true

pub returns-else-n-half : goal.returns-else-n-half
returns-else-n-half c = read_high c.args.half refl (omega arith) (omega arith) c.if-n-half.false
