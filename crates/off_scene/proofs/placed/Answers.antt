-- Copied where there is room.
use native.Mathlib.Omega.{arith}
use Rattle.off_scene.specs.Laws.{room_lacks, room_serves}
use Rattle.off_scene.proofs.placed.Goals as goal

pub returns-then-out-n : goal.returns-then-out-n
returns-then-out-n c = room_lacks _ _ (omega arith)

pub returns : goal.returns
returns c = room_serves _ _ (omega arith) c.copy.ensures
