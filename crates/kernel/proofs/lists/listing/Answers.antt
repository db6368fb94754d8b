-- The judge decides; then the room.
use Rattle.questions.specs.Laws.{accepted_so}
use Rattle.questions.specs.Listings.{list_refused}
use Rattle.questions.proofs.Listings.{list_short, list_told}
use Rattle.kernel.proofs.lists.listing.Goals as goal

pub returns-in_err-judge : goal.returns-in_err-judge
returns-in_err-judge g c = list_refused _ _ c.judge.ensures c.in_err-judge.was c.from_residual.ensures.1

pub write_pairs-n-requires : goal.write_pairs-n-requires
write_pairs-n-requires g c = search (accepted_so, c.in_ok-judge.was)

pub returns-then-n-out : goal.returns-then-n-out
returns-then-n-out g c = search (list_short, c.in_ok-judge.was)

pub returns : goal.returns
returns g c = search (list_told, c.in_ok-judge.was)
