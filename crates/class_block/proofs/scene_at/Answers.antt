-- The part of the block up to the scene's end; none where nothing is left.
use Prim.Native.Nat.{◌+◌}
use native.Mathlib.Omega.{arith}
use borrow.Author.Rules.{rules}
use Rattle.class_block.specs.Scenes.{part_fits, part_some, scene_here, scene_none}
use Rattle.class_block.proofs.scene_at.Goals as goal

pub overflow_add-end : goal.overflow_add-end
overflow_add-end c = omega (arith, part_fits c.args.block.now c.args.at c.size.ensures)

pub slice_bounds-result-end : goal.slice_bounds-result-end
slice_bounds-result-end c =
    let w = part_fits c.args.block.now c.args.at c.size.ensures in
    search rules

pub returns-then-at-block : goal.returns-then-at-block
returns-then-at-block c =
    record {
      scene = scene_here c.args.block.now c.args.at (omega arith) (c.args.at + c.size.result)
          (part_some c.args.block.now c.args.at c.size.ensures);
    }

pub returns : goal.returns
returns c = record { scene = search scene_none }
