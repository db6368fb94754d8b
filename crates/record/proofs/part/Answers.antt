-- The part that is lent is that part of the list.
use mathlib.Core.Path.{ap}
use Prim.Native.Nat.{ℕ}
use native.Mathlib.Nat.{add-sub_cancel_left}
use lib.ListN.{take, drop}
use Rattle.record.proofs.part.Goals as goal

pub returns : goal.returns
returns c =
    ap (λ (k : ℕ). take k (drop c.args.a c.args.s.now))
    (add-sub_cancel_left c.args.a c.args.n)
