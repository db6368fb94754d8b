-- A listing that is not refused, and what is left where all are asked for: what rests on the part of the hits. Assumes nothing.
use Rattle.std.specs.Prelude.{◌≡◌, Bool, true, false, cond, ℕ, ◌*◌, ◌/◌, ◌≤◌, ◌<◌, ltb, Ok, Err}
use Rattle.std.proofs.Math.Path.{refl, sym, ap}
use Rattle.std.proofs.Common.{◌∙◌, arith, ltb-true, ltb-false}
use mathlib.Core.List.{List}
use Rattle.std.proofs.Math.ListN.{length}
use Rattle.scene.specs.declared.Refusal.TheVariants.{ListTooShort}
use Rattle.judge.specs.Judge.{judged}
use Rattle.judge.specs.Judge.{Judged}
use Rattle.questions.specs.Hits.{Hit}
use Rattle.questions.specs.WritePairs.{pairs_written, part_in, all_in}
use Rattle.questions.specs.PairsWritten.{pairs_written_part, part_all}
use Rattle.scene.specs.View.{View, view_of}
use Rattle.questions.specs.Answers.{or_refuse, listing_in, list_fault, listed_in, held_in, IsListed, IsPart}
use Rattle.questions.specs.Listings.{lacks_room, PouredIf, short, fits}
use Rattle.questions.specs.Types.{Listed}

pub poured_all : (l : List Hit) (d : List ℕ) → 3 * length l ≤ length d → pairs_written d 0 0 l ≡ all_in l d
poured_all l d h = pairs_written_part l d 0 ∙ part_all l d h

module _ (v : View) (d : List ℕ) where
  -- what is left where all are asked for
  pub poured_held : {d₁ : List ℕ} {n : ℕ} → PouredIf (listing_in v) 0 true d d₁ n → d₁ ≡ held_in v d
  unfolding held_in lacks_room or_refuse
  poured_held {d₁} p = by (ltb (length d / 3) (length l)) refl
    where
      l : List Hit
      l = listing_in v

      by : (b : Bool) → ltb (length d / 3) (length l) ≡ b → d₁ ≡ held_in v d
      by true t =
          p.held ∙ ap (λ (b : Bool). cond b d (pairs_written d 0 0 l)) t
          ∙ sym (ap (λ (j : Judged). or_refuse (λ _. d) j (all_in l d)) (short v d (ltb-true _ _ t)))
      by false t =
          let h : length l ≤ length d / 3 = ltb-false _ _ t in
          p.held ∙ ap (λ (b : Bool). cond b d (pairs_written d 0 0 l)) t ∙ poured_all l d (omega arith)
          ∙ sym (ap (λ (j : Judged). or_refuse (λ _. d) j (all_in l d)) (fits v d h))

-- the question of bytes, by the judge's answer o
module _ (s d : List ℕ) {o : Judged} (e : o ≡ judged s) where
  abbrev l : List Hit
  l = listing_in (view_of s)

  pub part_told : (from : ℕ) {d₁ : List ℕ} {n : ℕ} → o ≡ Ok tt → PouredIf l from false d d₁ n → IsPart s from d d₁ (Ok n)
  unfolding or_refuse lacks_room
  part_told from q p =
      record {
        answer = ap Ok p.count ∙ ap (λ (j : Judged). or_refuse Err j (Ok (length l))) (sym q ∙ e);
        held = p.held ∙ pairs_written_part l d from ∙ ap (λ (j : Judged). or_refuse (λ _. d) j (part_in l from d)) (sym q ∙ e);
      }

  module _ (q : o ≡ Ok tt) {d₁ : List ℕ} {n : ℕ} (p : PouredIf l 0 true d d₁ n) where
    told : {j : Judged} {r : Listed} → j ≡ list_fault (view_of s) d → r ≡ or_refuse Err j (Ok (length l)) →
        IsListed s d d₁ r
    unfolding or_refuse listed_in
    told f a =
        record {
          answer =
              a ∙ ap (λ (j : Judged). or_refuse Err j (Ok (length l))) f
              ∙ ap (λ (j : Judged). or_refuse Err j (listed_in (view_of s) d)) (sym q ∙ e);
          held = poured_held (view_of s) d p ∙ ap (λ (j : Judged). or_refuse (λ _. d) j (held_in (view_of s) d)) (sym q ∙ e);
        }

    pub list_short : length d₁ / 3 < n → IsListed s d d₁ (Err (ListTooShort n))
    unfolding or_refuse
    list_short h = told (ap (λ (k : ℕ). Err (ListTooShort k)) p.count ∙ sym (short (view_of s) d (omega (arith, p.long, p.count))))
        refl

    pub list_told : n ≤ length d₁ / 3 → IsListed s d d₁ (Ok n)
    unfolding or_refuse
    list_told h = told (sym (fits (view_of s) d (omega (arith, p.long, p.count)))) (ap Ok p.count)
