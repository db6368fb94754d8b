-- A number below the lower limit is out; else the higher one decides.
use mathlib.Core.Path.{refl}
use Rattle.scene.specs.Limits.{within}
use Rattle.laws.specs.Tests.{and_less_stops, and_less_goes_on}
use Rattle.scene.proofs.is_within.Goals as goal

pub returns-then-n-low : goal.returns-then-n-low
unfolding within
returns-then-n-low c = and_less_stops _ c.if-n-low.true

pub returns : goal.returns
unfolding within
returns c = and_less_goes_on c.if-n-low.false refl
