-- Eight stores.
use Rattle.bodhranhaze.specs.Facts.{eight_told}
use Rattle.bodhranhaze.proofs.facts.tell.Goals as goal

pub returns : goal.returns
returns c = search eight_told
