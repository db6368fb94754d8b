-- A one is shifted to its place.
use mathlib.Core.Path.{◌∙◌}
use native.Mathlib.Nat.{one-mul}
use native.Mathlib.Omega.{arith}
use lib.Dec.{lit<}
use lib.Pow.{shl_exact}
use Rattle.survey_enclosed.proofs.bit.Goals as goal

pub returns : goal.returns
returns c = shl_exact {a = 1} 1 c.args.i 64 (lit< tt) (omega arith) ∙ one-mul _
