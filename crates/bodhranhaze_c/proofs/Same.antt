-- Each export promises what the library's function of its name promises: whatever its contract states of arguments, answer and lent
-- places, the function's states too, and so do the theorems about the functions. An export that says less does not give it.
use Rattle.bodhranhaze.proofs.bodhranhaze_refusal.Reads as refusal
use Rattle.bodhranhaze.proofs.bodhranhaze_place.Reads as place
use Rattle.bodhranhaze.proofs.bodhranhaze_verdict.Reads as verdict
use Rattle.bodhranhaze.proofs.bodhranhaze_pairs.Reads as pairs
use Rattle.bodhranhaze.proofs.bodhranhaze_inside.Reads as inside
use Rattle.bodhranhaze.proofs.refusals.bodhranhaze_inside_refusal.Reads as inside-refusal
use Rattle.bodhranhaze.proofs.bodhranhaze_listing.Reads as listing
use Rattle.bodhranhaze.proofs.refusals.bodhranhaze_listing_refusal.Reads as listing-refusal
use Rattle.bodhranhaze.proofs.moves.bodhranhaze_move.Reads as move
use Rattle.bodhranhaze.proofs.moves.bodhranhaze_move_far.Reads as move-far
use Rattle.bodhranhaze.proofs.moves.bodhranhaze_reverse.Reads as reverse
use Rattle.bodhranhaze.proofs.vertices.bodhranhaze_take.Reads as take
use Rattle.bodhranhaze.proofs.vertices.bodhranhaze_take_place.Reads as take-place
use Rattle.bodhranhaze.proofs.colours.bodhranhaze_light.Reads as light
use Rattle.bodhranhaze.proofs.facts.bodhranhaze_survey.Reads as survey
use Rattle.bodhranhaze_c.proofs.bodhranhaze_refusal.Reads as exported-refusal
use Rattle.bodhranhaze_c.proofs.bodhranhaze_place.Reads as exported-place
use Rattle.bodhranhaze_c.proofs.bodhranhaze_verdict.Reads as exported-verdict
use Rattle.bodhranhaze_c.proofs.bodhranhaze_pairs.Reads as exported-pairs
use Rattle.bodhranhaze_c.proofs.bodhranhaze_inside.Reads as exported-inside
use Rattle.bodhranhaze_c.proofs.bodhranhaze_inside_refusal.Reads as exported-inside-refusal
use Rattle.bodhranhaze_c.proofs.bodhranhaze_listing.Reads as exported-listing
use Rattle.bodhranhaze_c.proofs.bodhranhaze_listing_refusal.Reads as exported-listing-refusal
use Rattle.bodhranhaze_c.proofs.bodhranhaze_move.Reads as exported-move
use Rattle.bodhranhaze_c.proofs.bodhranhaze_move_far.Reads as exported-move-far
use Rattle.bodhranhaze_c.proofs.bodhranhaze_reverse.Reads as exported-reverse
use Rattle.bodhranhaze_c.proofs.bodhranhaze_take.Reads as exported-take
use Rattle.bodhranhaze_c.proofs.bodhranhaze_take_place.Reads as exported-take-place
use Rattle.bodhranhaze_c.proofs.bodhranhaze_light.Reads as exported-light
use Rattle.bodhranhaze_c.proofs.bodhranhaze_survey.Reads as exported-survey

pub refusal_same : (κs a r e : _) → exported-refusal.Post κs a r e → refusal.Post κs a r e
refusal_same κs a r e x = x

pub place_same : (κs a r e : _) → exported-place.Post κs a r e → place.Post κs a r e
place_same κs a r e x = x

pub verdict_same : (κs a r e : _) → exported-verdict.Post κs a r e → verdict.Post κs a r e
verdict_same κs a r e x = x

pub pairs_same : (κs a r e : _) → exported-pairs.Post κs a r e → pairs.Post κs a r e
pairs_same κs a r e x = x

pub inside_same : (κs a r e : _) → exported-inside.Post κs a r e → inside.Post κs a r e
inside_same κs a r e x = x

pub inside_refusal_same : (κs a r e : _) → exported-inside-refusal.Post κs a r e → inside-refusal.Post κs a r e
inside_refusal_same κs a r e x = x

pub listing_same : (κs a r e : _) → exported-listing.Post κs a r e → listing.Post κs a r e
listing_same κs a r e x = x

pub listing_refusal_same : (κs a r e : _) → exported-listing-refusal.Post κs a r e → listing-refusal.Post κs a r e
listing_refusal_same κs a r e x = x

pub move_same : (κs a r e : _) → exported-move.Post κs a r e → move.Post κs a r e
move_same κs a r e x = x

pub move_far_same : (κs a r e : _) → exported-move-far.Post κs a r e → move-far.Post κs a r e
move_far_same κs a r e x = x

pub reverse_same : (κs a r e : _) → exported-reverse.Post κs a r e → reverse.Post κs a r e
reverse_same κs a r e x = x

pub take_same : (κs a r e : _) → exported-take.Post κs a r e → take.Post κs a r e
take_same κs a r e x = x

pub take_place_same : (κs a r e : _) → exported-take-place.Post κs a r e → take-place.Post κs a r e
take_place_same κs a r e x = x

pub light_same : (κs a r e : _) → exported-light.Post κs a r e → light.Post κs a r e
light_same κs a r e x = x

pub survey_same : (κs a r e : _) → exported-survey.Post κs a r e → survey.Post κs a r e
survey_same κs a r e x = x
