-- The rest of the faces reads as the whole.
use Prim.Native.Nat.{◌-◌, ◌≤◌}
use mathlib.Core.Path.{◌≡◌}
use lib.ListN.{length}
use Rattle.off_form.specs.Form.{faces_from}
use Rattle.off_form.proofs.faces.Given as goal

abbrev pub invariant-loop : goal.invariant-loop
invariant-loop l = (faces_from (l.n - l.counter) l.text l.k ≡ faces_from l.n l.text l.at) × (l.k ≤ length l.text)
