-- Why a question is refused, as a call from C says it: a number, 0 where there is an answer. Assumes nothing.
use Rattle.std.specs.Prelude.{◌≡◌, refl, List, ℕ, ◌*◌, ◌/◌, ◌≤◌, ◌<◌, leb, Ok, Err}
use Rattle.std.proofs.Math.Path.{sym, ap}
use Rattle.std.proofs.Common.{◌∙◌, arith, le-leb}
use Rattle.std.proofs.lemmas.Bool.{lt-leb}
use Rattle.std.proofs.Math.ListN.{length}
use Rattle.scene.specs.Refusal.{number_of}
use Rattle.scene.specs.View.{View, view_of}
use Rattle.scene.specs.declared.Refusal.{Refusal}
use Rattle.scene.specs.declared.Refusal.TheVariants.{ListTooShort}
use Rattle.judge.specs.Judge.{refuse_unless, and_then, judged}
use Rattle.judge.specs.Judge.{Judged}
use Rattle.questions.specs.Answers as kernel
use Rattle.questions.specs.Answers.{or_refuse, listing_in, list_fault}
use Rattle.questions.specs.Types.{Enclosing}
use Rattle.bodhranhaze.specs.Calls.{of_refusal, refusal_number, pairs_of, by_answer}

abbrev pub why_not : Enclosing → ℕ
why_not e = of_refusal number_of e

unfoldable pub inside_refusal : List ℕ → ℕ → ℕ
inside_refusal s k = why_not (kernel.inside_of s k)

-- of a list with so many places
unfoldable pub room_fault : View → ℕ → Judged
room_fault v places = refuse_unless (leb (3 * length (listing_in v)) places) (ListTooShort (length (listing_in v))) (Ok tt)

unfoldable pub listing_refusal : List ℕ → ℕ → ℕ
listing_refusal s places = refusal_number (and_then (judged s) (room_fault (view_of s) places))

-- which is the kernel's own test of a lent list
pub room_of : (v : View) (d : List ℕ) → list_fault v d ≡ room_fault v (length d)
unfolding list_fault room_fault
room_of v d = refl

pub why_inside : (s : List ℕ) (k : ℕ) {o : Enclosing} {n : ℕ} → o ≡ kernel.inside_of s k → n ≡ why_not o → n ≡ inside_refusal s k
unfolding inside_refusal
why_inside s k e p = by_answer why_not e p

module _ (s : List ℕ) (places : ℕ) {o : Judged} (e : o ≡ judged s) where
  pub why_scene : {r : Refusal} {n : ℕ} → o ≡ Err r → n ≡ number_of r → n ≡ listing_refusal s places
  unfolding listing_refusal and_then
  why_scene q p = p ∙ ap (λ (j : Judged). refusal_number (and_then j (room_fault (view_of s) places))) (sym q ∙ e)

  module _ {n : ℕ} (q : o ≡ Ok tt) (count : n ≡ pairs_of s) where
    count_is : n ≡ length (listing_in (view_of s))
    unfolding pairs_of or_refuse
    count_is = count ∙ ap (λ (j : Judged). or_refuse (λ _. 0) j (length (listing_in (view_of s)))) (sym e ∙ q)

    told : refusal_number (room_fault (view_of s) places) ≡ listing_refusal s places
    unfolding listing_refusal and_then
    told = ap (λ (j : Judged). refusal_number (and_then j (room_fault (view_of s) places))) (sym q ∙ e)

    pub why_room : places / 3 < n → 10 ≡ listing_refusal s places
    unfolding room_fault refuse_unless
    why_room h =
        sym (ap (λ b. refusal_number (refuse_unless b (ListTooShort (length (listing_in (view_of s)))) (Ok tt)))
        (lt-leb (3 * length (listing_in (view_of s))) places (omega (arith, count_is)))) ∙ told

    pub why_none : n ≤ places / 3 → 0 ≡ listing_refusal s places
    unfolding room_fault refuse_unless
    why_none h =
        sym (ap (λ b. refusal_number (refuse_unless b (ListTooShort (length (listing_in (view_of s)))) (Ok tt)))
        (le-leb (3 * length (listing_in (view_of s))) places (omega (arith, count_is)))) ∙ told
