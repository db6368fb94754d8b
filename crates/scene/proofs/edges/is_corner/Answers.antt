-- The first corner that is i decides.
use mathlib.Core.Path.{refl}
use Rattle.laws.specs.Tests.{or_found, or_goes_on}
use Rattle.scene.specs.Faces.{is_corner}
use Rattle.scene.proofs.edges.is_corner.Goals as goal

pub returns-then-f-i : goal.returns-then-f-i
unfolding is_corner
returns-then-f-i c = or_found _ refl c.if-f-i.true

pub returns-then-f-i-2 : goal.returns-then-f-i-2
unfolding is_corner
returns-then-f-i-2 c = or_goes_on refl c.if-f-i.false (or_found _ refl c.if-f-i-2.true)

pub returns : goal.returns
unfolding is_corner
returns c = or_goes_on refl c.if-f-i.false (or_goes_on refl c.if-f-i-2.false refl)
