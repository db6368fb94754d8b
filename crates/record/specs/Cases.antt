-- The cases of a record shown, each from the facts that lead there. Assumes nothing.
use Rattle.std.specs.Prelude.{ℕ, ◌+◌, ◌-◌, ◌<◌, ◌≤◌, ◌≡◌, List, [], length, Ok, Err}
use Rattle.std.proofs.Common.{sym, ◌∙◌}
use Rattle.std.proofs.Math.Path.{ap}
use borrow.Author.Tests.{eq-eqb, ne_eqb, lt-ltb, le-ltb, le-leb, lt-leb, eqb-true, leb-true}
use Rattle.scene.specs.Records.{verts, last_record, length_of, point_start, face_start, end_start}
use Rattle.scene.specs.declared.Refusal.{Refusal}
use Rattle.scene.specs.declared.Refusal.TheVariants.{NoSuchNumber}
use Rattle.judge.specs.Judge.{refuse_unless, judged, judged_at, header_fault}
use Rattle.judge.specs.Laws.{rule_ok, rule_rest, then_first, then_rest, then_accepted, then_refused}
use Rattle.judge.specs.Judge.{Judged}
use Rattle.record.specs.Shown.{part, part_at, refusal, if_accepted, shown}

module _ (s : List ℕ) (k : ℕ) {l : List ℕ} where
  pub at_header : k ≡ 0 → l ≡ part s 0 6 → l ≡ part_at s k
  unfolding part_at
  at_header h e = simp (eq-eqb k 0 h) e

  pub at_point : (k ≡ 0 → ⊥) → k < 2 + verts s → l ≡ part s (point_start (k - 1)) 9 → l ≡ part_at s k
  unfolding part_at
  at_point z h e = simp (ne_eqb k 0 z, lt-ltb k (2 + verts s) h) e

  pub at_face : (k ≡ 0 → ⊥) → 2 + verts s ≤ k → k < last_record s → l ≡ part s (face_start s (k - (2 + verts s))) 5 → l ≡ part_at s k
  unfolding part_at
  at_face z p h e = simp (ne_eqb k 0 z, le-ltb k (2 + verts s) p, lt-ltb k (last_record s) h) e

  pub at_end : (k ≡ 0 → ⊥) → 2 + verts s ≤ k → last_record s ≤ k → l ≡ part s (end_start s) 2 → l ≡ part_at s k
  unfolding part_at
  at_end z p q e = simp (ne_eqb k 0 z, le-ltb k (2 + verts s) p, le-ltb k (last_record s) q) e

-- of o, what `record_refusal` answered
module _ (s : List ℕ) (k : ℕ) {o : Judged} (j : o ≡ refusal s k) where
  pub shown_none : {r : Refusal} → o ≡ Err r → [] ≡ shown s k
  unfolding shown if_accepted
  shown_none q = ap (λ (x : Judged). if_accepted x (part_at s k)) (sym q ∙ j)

  pub shown_all : {l : List ℕ} → o ≡ Ok tt → l ≡ part_at s k → l ≡ shown s k
  unfolding shown if_accepted
  shown_all q e = e ∙ ap (λ (x : Judged). if_accepted x (part_at s k)) (sym q ∙ j)

  -- what is not refused is long enough, and has the record
  pub long_enough : o ≡ Ok tt → length s ≡ length_of s
  unfolding refusal judged_at header_fault
  long_enough q = eqb-true _ _ (rule_ok _ _ _ (rule_rest _ _ _ (rule_rest _ _ _ (then_first _ _ (then_first _ _ (sym j ∙ q))))))

  pub has_record : o ≡ Ok tt → k ≤ last_record s
  unfolding refusal
  has_record q = leb-true _ _ (rule_ok _ _ _ (then_rest _ _ (sym j ∙ q)))

-- of o, what the judge answered: it refuses, the scene lacks the record, or it has it
module _ (s : List ℕ) (k : ℕ) {o : Judged} (j : o ≡ judged s) where
  pub lacking : o ≡ Ok tt → last_record s < k → Err NoSuchNumber ≡ refusal s k
  unfolding refusal refuse_unless
  lacking q h = then_accepted j q (simp (lt-leb k (last_record s) h))

  pub had : o ≡ Ok tt → k ≤ last_record s → (Ok tt) ≡ refusal s k
  unfolding refusal refuse_unless
  had q h = then_accepted j q (simp (le-leb k (last_record s) h))

  pub not_judged : {r : Refusal} → o ≡ Err r → Err r ≡ refusal s k
  unfolding refusal
  not_judged q = then_refused _ j q
