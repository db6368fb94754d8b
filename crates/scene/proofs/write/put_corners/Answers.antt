-- Three stores, one behind the other.
use native.Mathlib.Numerals.{towards_suc}
use Rattle.scene.specs.Write.{corners_put}
use Rattle.scene.proofs.write.put_corners.Goals as goal

pub returns : goal.returns
unfolding corners_put
returns c = simp towards_suc
