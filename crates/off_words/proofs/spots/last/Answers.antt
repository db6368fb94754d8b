use mathlib.Core.Path.{refl}
use native.Mathlib.Omega.{arith}
use Rattle.off_words.specs.Spots.{turns}
use Rattle.off_words.proofs.spots.last.Goals as goal

pub loop-c-init : goal.loop-c-init
loop-c-init c = (refl, refl, omega arith, omega arith)

pub loop-c-preserved : goal.loop-c-preserved
loop-c-preserved c = search turns

pub returns : goal.returns
returns c = search turns
