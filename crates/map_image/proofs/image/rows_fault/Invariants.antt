-- The first fault of the rest is the first of the whole.
use mathlib.Core.Path.{◌≡◌}
use Prim.Native.Nat.{◌+◌}
use Rattle.scene.specs.Records.{verts}
use Rattle.judge.specs.Judge.{first_fault}
use Rattle.map_image.specs.Image.{point_fault, rows_fault}
use Rattle.map_image.proofs.image.rows_fault.Given as goal

abbrev pub invariant-loop-j : goal.invariant-loop-j
invariant-loop-j l = (l.e ≡ verts l.s + 1) × (first_fault (point_fault l.m l.s) l.j l.e ≡ rows_fault l.m l.s)
