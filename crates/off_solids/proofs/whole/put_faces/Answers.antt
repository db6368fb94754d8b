use native.Mathlib.Omega.{arith}
use Rattle.off_solids.specs.ReadOf.{group_next}
use Rattle.off_solids.specs.Bytes.{few_items, faces_none, faces_first, faces_more}
use borrow.Author.Rules.{rules}
use Rattle.off_solids.proofs.whole.put_faces.Goals as goal

pub overflow_mul-h : goal.overflow_mul-h
overflow_mul-h c = let h = few_items _ _ c.requires.0 in omega arith

pub loop-i-init : goal.loop-i-init
loop-i-init c =
    (faces_none c.args.text.now c.args.k _, search faces_first, c.past-at.ensures.1)

pub loop-i-preserved : goal.loop-i-preserved
loop-i-preserved c = (search faces_more, search group_next, search rules)
