-- A listing by its faults: the scene is refused, the lent list is too short, or it holds the whole. Assumes nothing.
use Rattle.std.specs.Prelude.{◌≡◌, Bool, true, false, cond, ◌&&◌, ℕ, ◌*◌, ◌/◌, ◌≤◌, ◌<◌, ltb, Ok, Err}
use Rattle.std.proofs.Math.Path.{refl, sym, ap}
use Rattle.std.proofs.Common.{◌∙◌, arith, le-leb}
use mathlib.Core.List.{List}
use Rattle.std.proofs.Math.ListN.{length}
use Rattle.std.proofs.lemmas.Bool.{lt-leb}
use Rattle.scene.specs.declared.Refusal.{Refusal}
use Rattle.scene.specs.declared.Refusal.TheVariants.{ListTooShort}
use Rattle.judge.specs.Judge.{refuse_unless, judged}
use Rattle.judge.specs.Judge.{Judged}
use Rattle.questions.specs.Hits.{Hit}
use Rattle.questions.specs.WritePairs.{WritesPairs, pairs_written, part_in}
use Rattle.std.specs.Result.{IsErrAnd}
use Rattle.laws.specs.Exits.{exits}
use Rattle.questions.specs.Types.{Listed}
use Rattle.scene.specs.View.{View, view_of}
use Rattle.questions.specs.Answers.{or_refuse, listing_in, list_fault, listed_in, held_in, IsListed, IsPart}

-- all of n pairs are asked for, and there are not three places for each
unfoldable pub lacks_room : Bool → (n places : ℕ) → Bool
lacks_room all n places = all && ltb (places / 3) n

-- what is left of a lent list d where the hits l are poured from one of them on: as far as there is room, or, where all are asked for, all
-- or none
pub record PouredIf (l : List Hit) (from : ℕ) (all : Bool) (d d' : List ℕ) (r : ℕ) : Type 0 where
  pub count : r ≡ length l
  pub long : length d' ≡ length d
  pub held : d' ≡ cond (lacks_room all (length l) (length d)) d (pairs_written d from 0 l)

module _ (l : List Hit) (from : ℕ) (all : Bool) (d : List ℕ) {n : ℕ} (count : n ≡ length l) {b : Bool}
    (test : b ≡ lacks_room all n (length d)) where
  test_is : {t : Bool} → b ≡ t → lacks_room all (length l) (length d) ≡ t
  test_is e = ap (λ (k : ℕ). lacks_room all k (length d)) (sym count) ∙ sym test ∙ e

  pub poured_none : b ≡ true → PouredIf l from all d d n
  poured_none e = record { count = count; long = refl; held = sym (ap (λ (b : Bool). cond b d (pairs_written d from 0 l)) (test_is e)) }

  pub poured_some : {d' : List ℕ} {r : ℕ} → b ≡ false → WritesPairs l from 0 d d' r → PouredIf l from all d d' r
  poured_some e p =
      record {
        count = omega (arith, p.count);
        long = p.long;
        held = p.held ∙ sym (ap (λ (b : Bool). cond b d (pairs_written d from 0 l)) (test_is e));
      }

-- the list is too short, or long enough
module _ (v : View) (d : List ℕ) where
  pub short : length d / 3 < length (listing_in v) → list_fault v d ≡ Err (ListTooShort (length (listing_in v)))
  unfolding list_fault refuse_unless
  short h = rw (lt-leb (3 * length (listing_in v)) (length d) (omega arith)) refl

  pub fits : length (listing_in v) ≤ length d / 3 → list_fault v d ≡ Ok tt
  unfolding list_fault refuse_unless
  fits h = rw (le-leb (3 * length (listing_in v)) (length d) (omega arith)) refl

-- the question of bytes, by the judge's answer o
module _ (s d : List ℕ) {o : Judged} (e : o ≡ judged s) where
  abbrev l : List Hit
  l = listing_in (view_of s)

  pub list_refused : {r : Refusal} {x : Listed} → o ≡ Err r → IsErrAnd x (λ y. y ≡ r) → IsListed s d d x
  unfolding or_refuse
  list_refused q h =
      record {
        answer = exits h (ap (λ (j : Judged). or_refuse Err j (listed_in (view_of s) d)) (sym q ∙ e));
        held = ap (λ (j : Judged). or_refuse (λ _. d) j (held_in (view_of s) d)) (sym q ∙ e);
      }

  pub part_refused : {r : Refusal} {x : Listed} (from : ℕ) → o ≡ Err r → IsErrAnd x (λ y. y ≡ r) → IsPart s from d d x
  unfolding or_refuse
  part_refused from q h =
      record {
        answer = exits h (ap (λ (j : Judged). or_refuse Err j (Ok (length l))) (sym q ∙ e));
        held = ap (λ (j : Judged). or_refuse (λ _. d) j (part_in l from d)) (sym q ∙ e);
      }
