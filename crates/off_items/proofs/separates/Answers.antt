-- One byte after another.
use Rattle.laws.specs.Tests.{or_found, or_goes_on, ors}
use mathlib.Core.Path.{refl}
use Rattle.off_items.specs.Items.{separates}
use Rattle.off_items.proofs.separates.Goals as goal

pub returns-then-c-eq32 : goal.returns-then-c-eq32
unfolding separates
returns-then-c-eq32 c = search ors

pub returns-then-c-eq10 : goal.returns-then-c-eq10
unfolding separates
returns-then-c-eq10 c = or_goes_on refl c.if-c-eq32.false (or_found _ refl c.if-c-eq10.true)

pub returns : goal.returns
unfolding separates
returns c = or_goes_on refl c.if-c-eq32.false (or_goes_on refl c.if-c-eq10.false refl)
