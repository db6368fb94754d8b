-- Two stores, one behind the other.
use native.Mathlib.Numerals.{towards_suc}
use Rattle.scene.specs.Write.{two_put}
use Rattle.scene.proofs.write.put_two.Goals as goal

pub returns : goal.returns
unfolding two_put
returns c = simp towards_suc
