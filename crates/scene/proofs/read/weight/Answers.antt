use mathlib.Core.Path.{ap, ◌∙◌}
use Rattle.laws.specs.Size.{called}
use Rattle.scene.specs.Bytes.{signed, weight_at}
use Rattle.scene.proofs.read.weight.Goals as goal

pub returns : goal.returns
unfolding weight_at
returns c = called c.signed.type_inv (c.signed.ensures ∙ (ap (signed 128) c.byte.ensures.0))
