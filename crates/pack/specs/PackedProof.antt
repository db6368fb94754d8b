-- The proofs of `Packed`: one scene is a block of itself, and blocks of whole scenes are joined. Assumes nothing.
use Rattle.std.proofs.Math.Path.{◌≡◌, refl}
use Rattle.std.proofs.Common.{sym, ap, ap₂, ◌∙◌, subst, arith}
use Rattle.std.specs.Prelude.{Bool, ◌&&◌, List, [], ◌∷◌, ◌++◌, map, ℕ, ltb, length, take, drop, Ok, Err}
use Rattle.std.proofs.Math.Bool.{true, false}
use borrow.Author.Tests.{le-leb, eqb-true}
use Rattle.std.proofs.Math.Dec.{eqb}
use Rattle.std.proofs.Math.Seq.{take-length, drop-length}
use Rattle.laws.specs.Lists.{Each}
use Rattle.scene.specs.Limits.{limits}
use Rattle.scene.specs.Records.{length_of}
use Rattle.scene.specs.Refusal.{number_of}
use Rattle.scene.specs.declared.Refusal.{Refusal}
use Rattle.scene.specs.declared.Refusal.TheVariants.{Opening, Counts, Length}
use Rattle.judge.specs.Judge.{refuse_unless, and_then, opens, counts_ok, header_fault, judged_at, judged}
use Rattle.judge.specs.Judge.{Judged}
use Rattle.class_block.specs.Block.{headed, whole, scenes_of}
use Rattle.class_block.specs.Parts.{Ended}
use Rattle.class_block.proofs.PartsProof.{parts}
use Rattle.class_tally.specs.Tally.{mark_of, tally_of, marks_of}
use Rattle.pack.specs.Packed.{passes, Whole, end_to_end, Packed}

pub number_passes : {j : Judged} {r : Refusal} {n : ℕ} → j ≡ Err r → n ≡ number_of r → ltb 3 n ≡ passes j
number_passes q e = ap (ltb 3) e ∙ sym (ap passes q)

pub passes_by : {a : Bool} (s : List ℕ) {j : Judged} → j ≡ judged s → a ≡ passes j → a ≡ passes (judged s)
passes_by s e h = h ∙ ap passes e

none : scenes_of [] ≡ []
none = (parts.scenes []).ended (omega arith)

module _ (s : List ℕ) (ok : Whole s) where
  header : (headed s ≡ true) × (length s ≡ length_of s)
  unfolding judged_at header_fault refuse_unless and_then headed
  header = go (opens s) (counts_ok limits s) (eqb (length s) (length_of s)) refl _ ok
    where
      go : (a b c : Bool) → eqb (length s) (length_of s) ≡ c → (k : Judged) →
          passes (and_then (refuse_unless a Opening (refuse_unless b Counts (refuse_unless c Length (Ok tt)))) k) ≡ true →
          ((a && b) ≡ true) × (length s ≡ length_of s)
      go true true true e k p = (refl, eqb-true (length s) (length_of s) e)
      go true true false e k p = absurd (let z : ◌≡◌ {A = ℕ} 0 1 = cc in omega arith)
      go true false c e k p = absurd (let z : ◌≡◌ {A = ℕ} 0 1 = cc in omega arith)
      go false b c e k p = absurd (let z : ◌≡◌ {A = ℕ} 0 1 = cc in omega arith)

  is_whole_law : whole s ≡ true
  unfolding whole
  is_whole_law = rw (header.0, le-leb (length_of s) (length s) (omega (arith, header.1)))

  alone : scenes_of s ≡ s ∷ []
  alone =
      ((parts.scenes s).passed header.0 (omega (arith, header.1))).0
      ∙ ap (λ (n : ℕ). take n s ∷ scenes_of (drop n s)) (sym header.1)
      ∙ ap₂ (λ (x y : List ℕ). x ∷ scenes_of y) (take-length s) (drop-length s) ∙ ap (λ (l : List (List ℕ)). s ∷ l) none

  ended : Ended s
  ended = subst (Each (λ s. whole s ≡ true)) (sym alone) (is_whole_law, tt)

scenes : (ss : List (List ℕ)) → Each Whole ss → scenes_of (end_to_end ss) ≡ ss
unfolding end_to_end
scenes [] h = none
scenes (s ∷ ss) h =
    parts.joined s (end_to_end ss) (ended s h.0) ∙ ap₂ (λ (a b : List (List ℕ)). a ++ b) (alone s h.0) (scenes ss h.1)

tallied : (ss : List (List ℕ)) → Each Whole ss → tally_of (marks_of (end_to_end ss)) ≡ tally_of (map mark_of ss)
unfolding marks_of
tallied ss h = ap (λ (l : List (List ℕ)). tally_of (map mark_of l)) (scenes ss h)

pub packed : Packed
packed = record { scenes = scenes; tallied = tallied }
