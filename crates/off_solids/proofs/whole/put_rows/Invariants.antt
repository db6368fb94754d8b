-- One vertex a turn.
use Prim.Native.Nat.{◌+◌, ◌*◌, ◌≤◌}
use mathlib.Core.Path.{◌≡◌}
use lib.ListN.{length}
use Rattle.off_items.specs.Items.{after}
use Rattle.off_solids.specs.Grown.{Grown}
use Rattle.off_solids.specs.Bytes.{row_bytes}
use Rattle.off_solids.proofs.whole.put_rows.Given as goal

abbrev pub invariant-loop-i : goal.invariant-loop-i
invariant-loop-i l =
    Grown l.k (row_bytes l.text l.i) l.initial.out l.out × (l.at ≡ after l.text (4 + l.i * l.per)) × (l.at ≤ length l.text)
