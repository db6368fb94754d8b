-- Three places a pair.
use Rattle.bodhranhaze.specs.Facts.{short, long}
use Rattle.bodhranhaze.proofs.facts.room_for.Goals as goal

pub returns-then-n-places : goal.returns-then-n-places
returns-then-n-places c = search short

pub returns : goal.returns
returns c = search long
