-- The judge decides.
use Rattle.questions.specs.Laws.{accepted_so}
use Rattle.questions.specs.Listings.{part_refused}
use Rattle.questions.proofs.Listings.{part_told}
use Rattle.kernel.proofs.lists.listing_part.Goals as goal

pub returns-in_err-judge : goal.returns-in_err-judge
returns-in_err-judge g c = part_refused _ _ c.judge.ensures _ c.in_err-judge.was c.from_residual.ensures.1

pub write_pairs-requires : goal.write_pairs-requires
write_pairs-requires g c = search (accepted_so, c.in_ok-judge.was)

pub returns : goal.returns
returns g c = search (part_told, c.in_ok-judge.was)
