-- Three or four times.
use mathlib.Core.Path.{◌≡◌, ap}
use Prim.Native.Nat.{ℕ, ◌*◌}
use native.Mathlib.Omega.{arith}
use Rattle.off_form.proofs.times.Goals as goal

pub returns-then-per-eq3 : goal.returns-then-per-eq3
returns-then-per-eq3 c = let e : 3 ≡ c.args.per = omega arith in ap (λ (k : ℕ). c.args.v * k) e

pub returns : goal.returns
returns c = let e : 4 ≡ c.args.per = omega arith in ap (λ (k : ℕ). c.args.v * k) e
