-- The calls from C answer what the definitions say. For each call: what its contract states, of the very relation between arguments, answer
-- and lent places that it is proved to meet, is this; a contract that says less does not give it. The arguments are in the call's own
-- order. Assumes nothing.
use Rattle.std.specs.Prelude.{◌≡◌, ◌-◌}
use Rattle.scene.specs.Write.{row_put}
use Rattle.judge.specs.Judge.{judged}
use Rattle.questions.specs.Answers.{verdict_number, verdict_of}
use Rattle.session.specs.Session.{reversed_in}
use Rattle.session.specs.Place.{move_fault, move_far_fault, reverse_fault}
use Rattle.doubles.specs.Taken.{taken_of}
use Rattle.bodhranhaze.specs.Calls.{refusal_number, refusal_place, pairs_of, inside_of, IsListing}
use Rattle.bodhranhaze.specs.Refusals.{inside_refusal, listing_refusal}
use Rattle.bodhranhaze.specs.Moves.{row_of, IsAnswered}
use Rattle.bodhranhaze.specs.Vertices.{vertex, taken_place, IsTake}
use Rattle.bodhranhaze.specs.Colours.{IsShown}
use Rattle.bodhranhaze.specs.Facts.{IsFacts}
use Rattle.bodhranhaze.proofs.bodhranhaze_refusal.Reads as refusal
use Rattle.bodhranhaze.proofs.bodhranhaze_place.Reads as place
use Rattle.bodhranhaze.proofs.bodhranhaze_verdict.Reads as verdict
use Rattle.bodhranhaze.proofs.bodhranhaze_pairs.Reads as pairs
use Rattle.bodhranhaze.proofs.bodhranhaze_inside.Reads as inside
use Rattle.bodhranhaze.proofs.refusals.bodhranhaze_inside_refusal.Reads as inside-refusal
use Rattle.bodhranhaze.proofs.bodhranhaze_listing.Reads as listing
use Rattle.bodhranhaze.proofs.refusals.bodhranhaze_listing_refusal.Reads as listing-refusal
use Rattle.bodhranhaze.proofs.moves.bodhranhaze_move.Reads as move
use Rattle.bodhranhaze.proofs.moves.bodhranhaze_move_far.Reads as move-far
use Rattle.bodhranhaze.proofs.moves.bodhranhaze_reverse.Reads as reverse
use Rattle.bodhranhaze.proofs.vertices.bodhranhaze_take.Reads as take
use Rattle.bodhranhaze.proofs.vertices.bodhranhaze_take_place.Reads as take-place
use Rattle.bodhranhaze.proofs.colours.bodhranhaze_light.Reads as light
use Rattle.bodhranhaze.proofs.facts.bodhranhaze_survey.Reads as survey

pub refusal_is : (κs a r e : _) → refusal.Post κs a r e → r ≡ refusal_number (judged a.0.now)
refusal_is κs a r e x = x

pub place_is : (κs a r e : _) → place.Post κs a r e → r ≡ refusal_place (judged a.0.now)
place_is κs a r e x = x

pub verdict_is : (κs a r e : _) → verdict.Post κs a r e → r ≡ verdict_number (verdict_of a.0.now)
verdict_is κs a r e x = x

pub pairs_is : (κs a r e : _) → pairs.Post κs a r e → r ≡ pairs_of a.0.now
pairs_is κs a r e x = x

pub inside_is : (κs a r e : _) → inside.Post κs a r e → r ≡ inside_of a.0.now a.1.0
inside_is κs a r e x = x

pub inside_refusal_is : (κs a r e : _) → inside-refusal.Post κs a r e → r ≡ inside_refusal a.0.now a.1.0
inside_refusal_is κs a r e x = x

pub listing_is : (κs a r e : _) → listing.Post κs a r e → IsListing a.0.now a.1.0.now e.1.0.now r
listing_is κs a r e x = x

pub listing_refusal_is : (κs a r e : _) → listing-refusal.Post κs a r e → r ≡ listing_refusal a.0.now a.1.0
listing_refusal_is κs a r e x = x

-- the scene's bytes before and afterwards are the first argument and the first at the exit

pub move_is : (κs a r e : _) → move.Post κs a r e →
    let row = row_of a.1.1.0 a.1.1.1.0 a.1.1.1.1.0 a.1.1.1.1.1.0 in
    IsAnswered (move_fault a.0.now a.1.0 row) a.0.now (row_put a.0.now a.1.0 row) e.0.now r
move_is κs a r e x = x

pub move_far_is : (κs a r e : _) → move-far.Post κs a r e →
    let row = row_of a.1.0 a.1.1.0 a.1.1.1.0 a.1.1.1.1.0 in
    IsAnswered (move_far_fault a.0.now row) a.0.now (row_put a.0.now 0 row) e.0.now r
move_far_is κs a r e x = x

pub reverse_is : (κs a r e : _) → reverse.Post κs a r e →
    IsAnswered (reverse_fault a.0.now a.1.0) a.0.now (reversed_in a.0.now a.0.now (a.1.0 - 1)) e.0.now r
reverse_is κs a r e x = x

pub take_is : (κs a r e : _) → take.Post κs a r e →
    IsTake (vertex a.0 a.1.0 a.1.1.0 a.1.1.1.0) a.1.1.1.1.0.now e.1.1.1.1.0.now r
take_is κs a r e x = x

pub take_place_is : (κs a r e : _) → take-place.Post κs a r e →
    r ≡ taken_place (taken_of (vertex a.0 a.1.0 a.1.1.0 a.1.1.1.0))
take_place_is κs a r e x = x

pub light_is : (κs a r e : _) → light.Post κs a r e → IsShown a.0.now a.1.0.now e.1.0.now r
light_is κs a r e x = x

pub survey_is : (κs a r e : _) → survey.Post κs a r e →
    IsFacts a.0.now a.1.0.now e.1.0.now a.1.1.0.now e.1.1.0.now r
survey_is κs a r e x = x
