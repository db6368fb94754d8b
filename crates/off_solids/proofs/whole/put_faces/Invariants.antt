-- One face a turn.
use Prim.Native.Nat.{◌+◌, ◌*◌, ◌≤◌}
use mathlib.Core.Path.{◌≡◌}
use lib.ListN.{length}
use Rattle.off_items.specs.Items.{after}
use Rattle.off_form.specs.Form.{numbers_of, vertices_of}
use Rattle.off_solids.specs.Grown.{Grown}
use Rattle.off_solids.specs.Bytes.{faces_bytes}
use Rattle.off_solids.proofs.whole.put_faces.Given as goal

abbrev pub invariant-loop-i : goal.invariant-loop-i
invariant-loop-i l =
    Grown l.k (faces_bytes l.text l.i) l.initial.out l.out × (l.at ≡ after l.text (4 + vertices_of l.text * numbers_of l.text + l.i * 4))
    × (l.at ≤ length l.text)
