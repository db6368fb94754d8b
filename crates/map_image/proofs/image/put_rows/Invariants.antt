-- Each turn stores one row more.
use mathlib.Core.Path.{◌≡◌}
use Prim.Native.Nat.{◌+◌}
use lib.ListN.{length}
use Rattle.laws.specs.Filled.{filled}
use Rattle.scene.specs.Records.{verts}
use Rattle.scene.specs.Write.{row_put}
use Rattle.map_image.specs.Image.{image_row}
use Rattle.map_image.proofs.image.put_rows.Given as goal

abbrev pub invariant-loop-j : goal.invariant-loop-j
invariant-loop-j l = (l.e ≡ verts l.s + 1) × (l.out ≡ filled row_put (image_row l.m l.s) l.j l.initial.out) × (length l.out ≡ length l.initial.out)
