-- No second answer from C. For each call, and of the very relation between arguments, answer and lent places that it is proved to meet: two
-- answers to the same arguments are the same, and so is what they leave in a lent place. κs are the call's lifetimes, e and f what it
-- leaves. Assumes nothing.
use Rattle.std.specs.Prelude.{◌≡◌}
use Rattle.std.proofs.Common.{sym, ◌∙◌}
use Rattle.bodhranhaze.proofs.bodhranhaze_refusal.Reads as refusal
use Rattle.bodhranhaze.proofs.bodhranhaze_place.Reads as place
use Rattle.bodhranhaze.proofs.bodhranhaze_verdict.Reads as verdict
use Rattle.bodhranhaze.proofs.bodhranhaze_pairs.Reads as pairs
use Rattle.bodhranhaze.proofs.bodhranhaze_inside.Reads as inside
use Rattle.bodhranhaze.proofs.refusals.bodhranhaze_inside_refusal.Reads as inside-refusal
use Rattle.bodhranhaze.proofs.bodhranhaze_listing.Reads as listing
use Rattle.bodhranhaze.proofs.refusals.bodhranhaze_listing_refusal.Reads as listing-refusal
use Rattle.bodhranhaze.proofs.moves.bodhranhaze_move.Reads as move
use Rattle.bodhranhaze.proofs.moves.bodhranhaze_move_far.Reads as move-far
use Rattle.bodhranhaze.proofs.moves.bodhranhaze_reverse.Reads as reverse
use Rattle.bodhranhaze.proofs.vertices.bodhranhaze_take.Reads as take
use Rattle.bodhranhaze.proofs.vertices.bodhranhaze_take_place.Reads as take-place
use Rattle.bodhranhaze.proofs.colours.bodhranhaze_light.Reads as light
use Rattle.bodhranhaze.proofs.facts.bodhranhaze_survey.Reads as survey

-- ---- a number alone

pub refusal_once : (κs a r q e f : _) → refusal.Post κs a r e → refusal.Post κs a q f → r ≡ q
refusal_once κs a r q e f x y = x ∙ sym y

pub place_once : (κs a r q e f : _) → place.Post κs a r e → place.Post κs a q f → r ≡ q
place_once κs a r q e f x y = x ∙ sym y

pub verdict_once : (κs a r q e f : _) → verdict.Post κs a r e → verdict.Post κs a q f → r ≡ q
verdict_once κs a r q e f x y = x ∙ sym y

pub pairs_once : (κs a r q e f : _) → pairs.Post κs a r e → pairs.Post κs a q f → r ≡ q
pairs_once κs a r q e f x y = x ∙ sym y

pub inside_once : (κs a r q e f : _) → inside.Post κs a r e → inside.Post κs a q f → r ≡ q
inside_once κs a r q e f x y = x ∙ sym y

pub inside_refusal_once : (κs a r q e f : _) → inside-refusal.Post κs a r e → inside-refusal.Post κs a q f → r ≡ q
inside_refusal_once κs a r q e f x y = x ∙ sym y

pub listing_refusal_once : (κs a r q e f : _) → listing-refusal.Post κs a r e → listing-refusal.Post κs a q f → r ≡ q
listing_refusal_once κs a r q e f x y = x ∙ sym y

pub take_place_once : (κs a r q e f : _) → take-place.Post κs a r e → take-place.Post κs a q f → r ≡ q
take_place_once κs a r q e f x y = x ∙ sym y

-- ---- a number, and what is left in the lent list, in the scene's own bytes, in the lent record or in the lent counts

pub listing_once : (κs a r q e f : _) → listing.Post κs a r e → listing.Post κs a q f → (r ≡ q) × (e.1.0.now ≡ f.1.0.now)
listing_once κs a r q e f x y = (x.answer ∙ sym y.answer, x.held ∙ sym y.held)

pub move_once : (κs a r q e f : _) → move.Post κs a r e → move.Post κs a q f → (r ≡ q) × (e.0.now ≡ f.0.now)
move_once κs a r q e f x y = (x.answer ∙ sym y.answer, x.held ∙ sym y.held)

pub move_far_once : (κs a r q e f : _) → move-far.Post κs a r e → move-far.Post κs a q f → (r ≡ q) × (e.0.now ≡ f.0.now)
move_far_once κs a r q e f x y = (x.answer ∙ sym y.answer, x.held ∙ sym y.held)

pub reverse_once : (κs a r q e f : _) → reverse.Post κs a r e → reverse.Post κs a q f → (r ≡ q) × (e.0.now ≡ f.0.now)
reverse_once κs a r q e f x y = (x.answer ∙ sym y.answer, x.held ∙ sym y.held)

pub take_once : (κs a r q e f : _) → take.Post κs a r e → take.Post κs a q f → (r ≡ q) × (e.1.1.1.1.0.now ≡ f.1.1.1.1.0.now)
take_once κs a r q e f x y = (x.answer ∙ sym y.answer, x.held ∙ sym y.held)

pub light_once : (κs a r q e f : _) → light.Post κs a r e → light.Post κs a q f → (r ≡ q) × (e.1.0.now ≡ f.1.0.now)
light_once κs a r q e f x y = (x.answer ∙ sym y.answer, x.held ∙ sym y.held)

pub survey_once : (κs a r q e f : _) → survey.Post κs a r e → survey.Post κs a q f →
    (r ≡ q) × (e.1.0.now ≡ f.1.0.now) × (e.1.1.0.now ≡ f.1.1.0.now)
survey_once κs a r q e f x y = (x.answer ∙ sym y.answer, x.held ∙ sym y.held, x.facts ∙ sym y.facts)
