-- The number, the place and the facts.
use Rattle.bodhranhaze.specs.Facts.{told_so}
use Rattle.bodhranhaze.proofs.facts.say.Goals as goal

pub returns : goal.returns
returns c = search told_so
