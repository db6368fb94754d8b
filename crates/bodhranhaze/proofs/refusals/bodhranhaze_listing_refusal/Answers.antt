-- The judge's refusal, then the room.
use Rattle.bodhranhaze.specs.Refusals.{why_scene, why_room, why_none}
use Rattle.bodhranhaze.proofs.refusals.bodhranhaze_listing_refusal.Goals as goal

pub returns-in-Err : goal.returns-in-Err
returns-in-Err c = search why_scene

pub returns-then-bodhranhaze_pairs-places : goal.returns-then-bodhranhaze_pairs-places
returns-then-bodhranhaze_pairs-places c = search why_room

pub returns : goal.returns
returns c = search why_none
