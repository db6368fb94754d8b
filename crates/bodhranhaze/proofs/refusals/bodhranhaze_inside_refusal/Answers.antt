use Rattle.bodhranhaze.specs.Refusals.{why_inside}
use Rattle.bodhranhaze.proofs.refusals.bodhranhaze_inside_refusal.Goals as goal

pub returns : goal.returns
returns c = search why_inside
