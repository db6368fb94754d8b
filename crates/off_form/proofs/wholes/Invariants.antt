-- The rest of the numbers reads as the whole.
use Prim.Native.Nat.{◌-◌, ◌≤◌}
use mathlib.Core.Path.{◌≡◌}
use lib.ListN.{length}
use Rattle.off_form.specs.Form.{wholes}
use Rattle.off_form.proofs.wholes.Given as goal

abbrev pub invariant-loop : goal.invariant-loop
invariant-loop l = (wholes l.signed (l.n - l.counter) l.text l.k ≡ wholes l.signed l.n l.text l.at) × (l.k ≤ length l.text)
