-- What the reader hands out: one scene after another. Assumes nothing.
use Rattle.std.specs.Prelude.{◌≡◌, ℕ, List}
use Rattle.std.specs.Borrow.{Bor}
use Rattle.class_block.specs.Block.{scene_of, start_at, end_at}
use Rattle.class_block.specs.declared.Reader.{Reader}

-- s is handed out by the reader r, which becomes r': the scene that starts at its place; the block stays, and the place is behind the scene
pub record Handed (r : Reader) (s : Bor (List ℕ)) (r' : Reader) : Type 0 where
  pub scene : s.now ≡ scene_of (start_at r.block.now r.at)
  pub block : r'.block ≡ r.block
  pub at : r'.at ≡ end_at r.block.now r.at
