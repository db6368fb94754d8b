-- A question's rules: the scene's come first, so that the turn of a refusal tells which of them gave it; and what the tests of each
-- question decide. Assumes nothing.
use Rattle.std.specs.Prelude.{◌≡◌, refl, ◌↔◌, Bool, true, false, List, ℕ, suc, ◌≤◌, ◌<◌, eqb, Ok, Err}
use Rattle.std.proofs.Common.{sym, ap, ⊎_elim, arith}
use mathlib.Core.Logic.Iff
use Rattle.laws.specs.Decides.{eqb_iff, and_iff, fails_iff, passes_iff, either_fails, not_fails}
use Rattle.scene.specs.Limits.{limits}
use Rattle.scene.specs.View.{view_of}
use Rattle.scene.specs.Tables.{tables_of, face}
use Rattle.scene.specs.Faces.{corner_iff}
use Rattle.scene.specs.Refusal.{number_of}
use Rattle.scene.specs.declared.Refusal.{Refusal}
use Rattle.scene.specs.declared.Refusal.TheVariants.{Opening, Counts, Length, Mark, Coordinate, Weight, Corner as BadCorner}
use Rattle.scene.specs.declared.Refusal.TheVariants.{Unused, Edge, ListTooShort, NoSuchNumber, NotDistinct, BufferTooShort, FarAllZero}
use Rattle.judge.specs.Judge.{refuse_unless, and_then, judged}
use Rattle.judge.specs.Judge.{Judged}
use Rattle.rules.specs.Rules.{Between, FileOk}
use Rattle.judge.specs.Tests.{never, within_iff, then_refused, rule_iff, then_iff}
use Rattle.rules.specs.Numbers.{check_order, Gives, gives, gives_none, gives_wider, rule_alone, rule_next, then_here, then_next}
use Rattle.rules.proofs.Parts.{judge_gives}
use Rattle.rules.proofs.Accepted.{accepted}
use Rattle.rules.proofs.Refused as table
use Rattle.questions.specs.Laws.{answered_then}
use Rattle.questions.specs.Answers.{or_refuse, is_point, is_face, differs, differ, are_points, ends_off_face, edge_and_face}
use Rattle.questions.specs.Answers.{is_vertex_of, edge_and_solid, ends_off_solid, is_solid}
use Rattle.theorem_demands.specs.Words.{SolidNumber, VertexOf, FourPoints, TwoAlike, EdgeAndFace, AlikeOrCorner, EdgeAndSolid}
use Rattle.theorem_demands.specs.Words.{AlikeOrVertex}
use Rattle.theorem_demands.proofs.Words.Solids.{vertex_of}
use Rattle.theorem_demands.specs.Answers.{OfScene, Refusals, Never, Always, NoList}

-- a scene's own refusals come first
pub scene_turn : (r : Refusal) → OfScene (number_of r) → check_order r ≤ 10
scene_turn Opening h = omega arith
scene_turn Counts h = omega arith
scene_turn Length h = omega arith
scene_turn (Mark p) h = omega arith
scene_turn (Coordinate p) h = omega arith
scene_turn (Weight p) h = omega arith
scene_turn (BadCorner p) h = omega arith
scene_turn (Unused p) h = omega arith
scene_turn (Edge p) h = omega arith
scene_turn (FarAllZero p) h = omega arith
scene_turn (ListTooShort p) h = absurd (⊎_elim (λ k. omega arith) (λ k. omega arith) h)
scene_turn NoSuchNumber h = absurd (⊎_elim (λ k. omega arith) (λ k. omega arith) h)
scene_turn NotDistinct h = absurd (⊎_elim (λ k. omega arith) (λ k. omega arith) h)
scene_turn (BufferTooShort p) h = absurd (⊎_elim (λ k. omega arith) (λ k. omega arith) h)

-- ---- a test that fails

same_fails : (a b : ℕ) → (differs a b ≡ false) ↔ (a ≡ b)
same_fails a b = not_fails (eqb a b) (eqb_iff a b)

-- ---- the scene's rules, then: the scene has the numbers (p), and no two points are alike (q)

module _ (s : List ℕ) where
  module _ {Has Alike : Type 0} (p q : Bool) (has : (p ≡ true) ↔ Has) (alike : Has → (q ≡ false) ↔ Alike) where
    abbrev alone : Judged
    alone = refuse_unless q NotDistinct (Ok tt)

    abbrev own : Judged
    own = refuse_unless p NoSuchNumber alone

    own_gives : Gives 12 13 own
    own_gives = search gives

    -- at a turn that is neither the judge's nor one of these
    neither : (r : Refusal) → 10 < check_order r → ¬ Between 12 13 (check_order r) → ¬ (and_then (judged s) own ≡ Err r)
    neither r l n e =
        ⊎_elim (λ k. omega (arith, (judge_gives limits s).turn r k)) (λ k. n (own_gives.turn r k.1)) ((then_refused (judged s) own r).0 e)

    pub asked : Refusals s (λ r. and_then (judged s) own ≡ Err r) NoList Has Alike
    asked =
        record {
          scene = λ r h. Iff.trans (then_here (judged s) own r 13
              (gives_wider (suc (check_order r)) 13 (omega (arith, scene_turn r h)) (omega arith) own_gives)) (table.refused limits s r);
          room = λ n. (λ e. absurd (neither (ListTooShort n) (omega arith) (λ h. omega arith) e), λ h. absurd h.1);
          buffer = λ n. neither (BufferTooShort n) (omega arith) (λ h. omega arith);
          lacking =
              then_next (judged s) own NoSuchNumber 1 10 (judge_gives limits s) (omega arith) (accepted limits s)
              (rule_alone has NoSuchNumber alone 13 (search gives));
          same =
              Iff.trans (then_next (judged s) own NotDistinct 1 10 (judge_gives limits s) (omega arith) (accepted limits s)
              (rule_next has NoSuchNumber alone (omega arith)
              (Iff.trans (rule_alone Iff.rfl NotDistinct (Ok tt) 14 (gives_none 14 14)) (Iff.symm (fails_iff q Iff.rfl)))))
              (λ h. (h.0, h.1.0, (alike h.1.0).0 h.1.1), λ h. (h.0, (h.1, (alike h.1).1 h.2)));
        }

    -- none of them is at fault
    pub asked_ok : (and_then (judged s) own ≡ Ok tt) ↔ (FileOk limits s × Has × ¬ Alike)
    asked_ok =
        Iff.trans (then_iff (judged s) own)
        (Iff.trans (Iff.and (accepted limits s) (Iff.trans (rule_iff p NoSuchNumber alone) (Iff.and has (rule_iff q NotDistinct (Ok tt))))) (
          λ h. (h.0, h.1.0, (passes_iff q (alike h.1.0)).0 h.1.1.0),
          λ h. (h.0, (h.1, ((passes_iff q (alike h.1)).1 h.2, refl))),
        ))

  -- no rules of its own
  pub plain : Refusals s (λ r. judged s ≡ Err r) NoList Always Never
  plain =
      record {
        scene = λ r h. table.refused limits s r;
        room = λ n. (λ e. absurd (omega (arith, (judge_gives limits s).turn (ListTooShort n) e)), λ h. absurd h.1);
        buffer = λ n e. omega (arith, (judge_gives limits s).turn (BufferTooShort n) e);
        lacking = (λ e. absurd (omega (arith, (judge_gives limits s).turn NoSuchNumber e)), λ h. absurd (h.1 tt));
        same = (λ e. absurd (omega (arith, (judge_gives limits s).turn NotDistinct e)), λ h. absurd h.2);
      }

  -- said otherwise
  pub told : {R S : Refusal → Type 0} {Short : ℕ → Type 0} {Has Alike : Type 0} → ((r : Refusal) → S r ↔ R r) →
      Refusals s R Short Has Alike → Refusals s S Short Has Alike
  told e t =
      record {
        scene = λ r h. Iff.trans (e r) (t.scene r h);
        room = λ n. Iff.trans (e (ListTooShort n)) (t.room n);
        buffer = λ n x. t.buffer n ((e (BufferTooShort n)).0 x);
        lacking = Iff.trans (e NoSuchNumber) t.lacking;
        same = Iff.trans (e NotDistinct) t.same;
      }

-- an answer is a refusal exactly when something is at fault
pub answered_iff : {X : Type 0} (refuse : Refusal → X) → ((q r : Refusal) → refuse q ≡ refuse r → q ≡ r) → (x : X) →
    ((r : Refusal) → ¬ (x ≡ refuse r)) →
    (j : Judged) (r : Refusal) → (or_refuse refuse j x ≡ refuse r) ↔ (j ≡ Err r)
unfolding or_refuse
answered_iff refuse one x not-refused (Ok _) r = (λ e. absurd (not-refused r e), λ e. absurd (never e))
answered_iff refuse one x not-refused (Err q) r = (λ e. ap Err (one q r e), λ e. let d : q ≡ r = cc in ap refuse d)

-- and it is another answer exactly when nothing is
pub answered_ok : {X : Type 0} (refuse : Refusal → X) (v : X) → ((r : Refusal) → ¬ (refuse r ≡ v)) → (j : Judged) (x : X) →
    (or_refuse refuse j x ≡ v) ↔ ((j ≡ Ok tt) × (x ≡ v))
unfolding or_refuse
answered_ok refuse v n (Ok _) x = (λ e. (refl, e), λ h. h.1)
answered_ok refuse v n (Err r) x = (λ e. absurd (n r e), λ h. absurd (never (sym h.0)))

-- the same of the judge's refusal, else the question's own
pub twice_iff : {X : Type 0} (refuse : Refusal → X) → ((q r : Refusal) → refuse q ≡ refuse r → q ≡ r) → (x : X) →
    ((r : Refusal) → ¬ (x ≡ refuse r)) →
    (j k : Judged) (r : Refusal) → (or_refuse refuse j (or_refuse refuse k x) ≡ refuse r) ↔ (and_then j k ≡ Err r)
twice_iff refuse one x n j k r = rw (answered_then refuse j k x) (answered_iff refuse one x n (and_then j k) r)

pub twice_ok : {X : Type 0} (refuse : Refusal → X) (v : X) → ((r : Refusal) → ¬ (refuse r ≡ v)) → (j k : Judged) (x : X) →
    (or_refuse refuse j (or_refuse refuse k x) ≡ v) ↔ ((and_then j k ≡ Ok tt) × (x ≡ v))
twice_ok refuse v n j k x = rw (answered_then refuse j k x) (answered_ok refuse v n (and_then j k) x)

-- ---- what each question asks of its numbers

module _ (s : List ℕ) where
  pub points_iff : (a b c d : ℕ) → (are_points (view_of s) a b c d ≡ true) ↔ FourPoints s a b c d
  unfolding are_points is_point
  points_iff a b c d = (
    λ e. let h = simp (and_iff, within_iff) at e in (h.0, h.1.0, h.1.1.0, h.1.1.1),
    λ h. simp (and_iff, within_iff) (h.0, (h.1, (h.2, h.3))),
  )

  pub edge_iff : (u v f : ℕ) → (edge_and_face (view_of s) u v f ≡ true) ↔ EdgeAndFace s u v f
  unfolding edge_and_face is_point is_face
  edge_iff u v f =
      (λ e. let h = simp (and_iff, within_iff) at e in (h.0, h.1.0, h.1.1), λ h. simp (and_iff, within_iff) (h.0, (h.1, h.2)))

  pub mask_iff : (u v k : ℕ) → (edge_and_solid (view_of s) u v k ≡ true) ↔ EdgeAndSolid s u v k
  unfolding edge_and_solid is_point is_solid
  mask_iff u v k =
      (λ e. let h = simp (and_iff, within_iff) at e in (h.0, h.1.0, h.1.1), λ h. simp (and_iff, within_iff) (h.0, (h.1, h.2)))

  vertex_iff : (k i : ℕ) → SolidNumber k → (is_vertex_of (view_of s) k i ≡ true) ↔ VertexOf s k i
  unfolding is_vertex_of
  vertex_iff k i h =
      Iff.trans (within_iff _ _ i) (λ x. (vertex_of s k h i).0 (omega arith), λ x. let y = (vertex_of s k h i).1 x in omega arith)

  pub alike_points : (a b c d : ℕ) → (differ a b c d ≡ false) ↔ TwoAlike a b c d
  unfolding differ
  alike_points a b c d =
      either_fails _ _ (same_fails a b) (either_fails _ _ (same_fails a c) (either_fails _ _ (same_fails a d)
      (either_fails _ _ (same_fails b c) (either_fails _ _ (same_fails b d) (same_fails c d)))))

  pub alike_corner : (u v f : ℕ) → (ends_off_face u v (face (tables_of s) f) ≡ false) ↔ AlikeOrCorner s u v f
  unfolding ends_off_face
  alike_corner u v f = either_fails _ _ (same_fails u v) (either_fails _ _ (not_fails _ (corner_iff u _)) (not_fails _ (corner_iff v _)))

  pub alike_vertex : (u v k : ℕ) → EdgeAndSolid s u v k → (ends_off_solid (view_of s) u v k ≡ false) ↔ AlikeOrVertex s u v k
  unfolding ends_off_solid
  alike_vertex u v k h =
      either_fails _ _ (same_fails u v) (either_fails _ _ (not_fails _ (vertex_iff k u h.2)) (not_fails _ (vertex_iff k v h.2)))
