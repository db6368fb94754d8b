use mathlib.Core.Path.{ap, ◌∙◌}
use Rattle.laws.specs.Size.{called}
use Rattle.scene.specs.Bytes.{signed, coordinate_at}
use Rattle.scene.proofs.read.coordinate.Goals as goal

pub returns : goal.returns
unfolding coordinate_at
returns c = called c.signed.type_inv (c.signed.ensures ∙ (ap (signed 32768) c.two.ensures.0))
