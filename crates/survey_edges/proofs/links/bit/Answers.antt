-- A one is shifted to its place.
use Prim.Native.Nat.{◌+◌, ◌-◌}
use native.Mathlib.Nat.{one-mul}
use native.Mathlib.Omega.{arith}
use lib.Pow.{shl_exact}
use lib.Dec.{lit<}
use mathlib.Core.Path.{◌∙◌}
use Rattle.survey_edges.proofs.links.bit.Goals as goal

pub returns : goal.returns
returns c = shl_exact {a = 1} 1 (c.args.i - (c.args.low + 1)) 64 (lit< tt) (omega arith) ∙ one-mul _
