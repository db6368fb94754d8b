-- No more is read than there are bytes in the pieces that were read, and these are few enough to be counted.
use native.Mathlib.Omega.{arith}
use Rattle.std.proofs.Common.{rules, length-take, length-drop}
use Rattle.class_read.specs.Branches.{fed_within}
use Rattle.merge.proofs.read_text.Goals as goal

pub overflow_add-bytes : goal.overflow_add-bytes
overflow_add-bytes c = let w = fed_within _ _ _ c.read-f.ensures in omega (arith, simp (length-take, length-drop) at w)

pub loop-preserved : goal.loop-preserved
loop-preserved c =
    let w = fed_within _ _ _ c.read-f.ensures in
    (search rules, omega (arith, simp (length-take, length-drop) at w))
