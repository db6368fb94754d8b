-- The kernel's listing, or its count alone.
use Rattle.bodhranhaze.specs.Calls.{listed_are}
use Rattle.bodhranhaze.proofs.bodhranhaze_listing.Goals as goal

pub returns-in-Ok : goal.returns-in-Ok
returns-in-Ok c = record { answer = search listed_are; held = search }
