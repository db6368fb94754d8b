-- The two corners are read, and the bit of one in the word of the other.
use Prim.Native.Nat.{◌+◌}
use mathlib.Core.Path.{◌∙◌}
use native.Mathlib.Omega.{arith}
use Rattle.judge.specs.Judge.{edge_ok}
use Rattle.judge.specs.Words.{in_even}
use Rattle.judge.proofs.closed.side_ok.Goals as goal

pub returns : goal.returns
returns c = λ a k are.
    c.in_even.ensures
    ∙ in_even _ _ _ _ _ _ are (omega arith) (omega arith)
    ∙ (λ j. edge_ok c.args.s.now a (a + k) (c.corner.ensures.0 j) (c.corner-2.ensures.0 j))
