-- Two constructors that differ give `cc` any equation, 0 ≡ 1 too, and from that anything follows. Assumes nothing.
use Rattle.std.specs.Prelude.{◌≡◌, ℕ}
use Rattle.std.proofs.Common.{arith}

pub nonsense : {X : Type 0} → ◌≡◌ {A = ℕ} 0 1 → X
nonsense e = absurd (omega arith)
