-- The sign is looked at where there may be one.
use Rattle.laws.specs.Tests.{same, ands}
use Rattle.off_items.specs.Numbers.{minus_at}
use Rattle.off_items.proofs.numbers.minus_at.Goals as goal

pub returns-then-not-signed : goal.returns-then-not-signed
unfolding minus_at
returns-then-not-signed c = search ands

pub returns : goal.returns
unfolding minus_at
returns c = search (ands, same)
