-- Demand 1, proved: question by question. Assumes nothing.
use Rattle.std.specs.Prelude.{◌≡◌, ◌↔◌, false, ℕ, suc, ◌+◌, ◌*◌, ◌≤◌, ◌<◌, leb, length, Ok, Err, Result}
use Rattle.std.proofs.Common.{sym, ap, ◌∙◌, ⊎_elim, true≢false, arith}
use mathlib.Core.Logic.Iff
use Rattle.std.proofs.Math.Bool.{true}
use mathlib.Core.List.{List, []}
use Rattle.laws.specs.Decides.{leb_iff}
use Rattle.laws.specs.Never.{nonsense}
use Rattle.scene.specs.Limits.{limits, within}
use Rattle.scene.specs.Records.{verts, last_record}
use Rattle.scene.specs.Tables.{tables_of, row, face}
use Rattle.scene.specs.declared.Refusal.{Refusal}
use Rattle.scene.specs.declared.Refusal.TheVariants.{ListTooShort, NoSuchNumber, NotDistinct, BufferTooShort}
use Rattle.judge.specs.Judge.{refuse_unless, and_then, judged}
use Rattle.judge.specs.Judge.{Judged}
use Rattle.judge.specs.Tests.{within_iff, then_refused}
use Rattle.rules.specs.Numbers.{check_order, Gives, gives, gives_none, gives_wider, rule_here, then_here, then_next}
use Rattle.rules.proofs.Parts.{judge_gives}
use Rattle.rules.proofs.Accepted.{accepted}
use Rattle.rules.proofs.Refused as table
use Rattle.record.specs.Shown.{refusal, shown, if_accepted}
use Rattle.pierce.specs.Formula.{pierced}
use Rattle.questions.specs.WritePairs.{all_in}
use Rattle.scene.specs.View.{view_of}
use Rattle.questions.specs.Laws.{answered_then}
use Rattle.questions.specs.Answers.{or_refuse, refused, is_vertex, is_solid, sign_in, sign_fault}
use Rattle.questions.specs.Answers.{sign_of, pierces_in, pierces_fault, pierces_of}
use Rattle.questions.specs.Answers.{masked_in, mask_fault, masked_of, enclosed_in, enclosed_fault, is_enclosed, enclosed_of, counted_of}
use Rattle.questions.specs.Answers.{inside_fault, enclosing_in, inside_of, verdict_in, verdict_of}
use Rattle.questions.specs.Answers.{list_fault, listing_in, listed_in, held_in, IsListed, IsPart}
use Rattle.questions.specs.Types.{Listed}
use Rattle.theorem_demands.specs.Words.{Vertex, RecordNumber, FourPoints, TwoAlike, EdgeAndFace, AlikeOrCorner}
use Rattle.theorem_demands.specs.Words.{EdgeAndSolid, AlikeOrVertex, SolidNumber}
use Rattle.theorem_demands.specs.Answers.{Refusals, Never, Always, NoList, TooShort, Answers}
use Rattle.theorem_demands.proofs.Answers.Tests.{scene_turn, asked, plain, told, answered_iff, twice_iff}
use Rattle.theorem_demands.proofs.Answers.Tests.{points_iff, edge_iff, mask_iff, alike_points, alike_corner, alike_vertex}

-- ---- an answer is no refusal

no_refusal : {X : Type 0} (x : X) (r : Refusal) → ¬ (◌≡◌ {A = Result X Refusal} (Ok x) (Err r))
no_refusal x r e = nonsense (cc)

-- ---- the questions

no_alike : (true ≡ false) ↔ Never
no_alike = (true≢false, absurd)

module _ (s : List ℕ) where
  of_sign : (a b c d : ℕ) → Refusals s (λ r. sign_of s a b c d ≡ Err r) NoList (FourPoints s a b c d) (TwoAlike a b c d)
  unfolding sign_of sign_in sign_fault
  of_sign a b c d =
      told s (twice_iff Err (λ q r e. cc) _ (λ r e. nonsense (cc)) (judged s) (sign_fault (view_of s) a b c d))
      (asked s _ _ (points_iff s a b c d) (λ h. alike_points s a b c d))

  of_pierces : (u v f : ℕ) → Refusals s (λ r. pierces_of s u v f ≡ Err r) NoList (EdgeAndFace s u v f) (AlikeOrCorner s u v f)
  unfolding pierces_of pierces_in pierces_fault
  of_pierces u v f = told s
      (twice_iff Err (λ q r e. cc) _ (no_refusal (pierced (verts s + 1) (row (tables_of s)) u v (face (tables_of s) f)))
      (judged s) (pierces_fault (view_of s) u v f))
      (asked s _ _ (edge_iff s u v f) (λ h. alike_corner s u v f))

  of_mask : (u v k : ℕ) → Refusals s (λ r. masked_of s u v k ≡ refused r) NoList (EdgeAndSolid s u v k) (AlikeOrVertex s u v k)
  unfolding masked_of masked_in mask_fault
  of_mask u v k =
      told s (twice_iff refused (λ q r e. cc) _ (λ r e. nonsense (cc)) (judged s) (mask_fault (view_of s) u v k))
      (asked s _ _ (mask_iff s u v k) (alike_vertex s u v k))

  of_enclosed : (i : ℕ) → Refusals s (λ r. enclosed_of s i ≡ Err r) NoList (Vertex s i) Never
  unfolding enclosed_of enclosed_in enclosed_fault is_vertex refuse_unless
  of_enclosed i =
      told s (twice_iff Err (λ q r e. cc) _ (no_refusal (is_enclosed (view_of s) i)) (judged s) (enclosed_fault (view_of s) i))
      (asked s (within 1 (verts s) i) true (within_iff 1 (verts s) i) (λ h. no_alike))

  of_record : (k : ℕ) → Refusals s (λ r. refusal s k ≡ Err r) NoList (RecordNumber s k) Never
  unfolding refusal refuse_unless
  of_record k = asked s (leb k (last_record s)) true (leb_iff k (last_record s)) (λ h. no_alike)

  none_shown : (k : ℕ) (r : Refusal) → refusal s k ≡ Err r → shown s k ≡ []
  unfolding shown if_accepted
  none_shown k r e = rw e

  of_verdict : Refusals s (λ r. verdict_of s ≡ Err r) NoList Always Never
  unfolding verdict_of
  of_verdict = told s (answered_iff Err (λ q r e. cc) _ (no_refusal (verdict_in (view_of s))) (judged s)) (plain s)

  of_counts : Refusals s (λ r. counted_of s ≡ Err r) NoList Always Never
  unfolding counted_of
  of_counts = told s (answered_iff Err (λ q r e. cc) _ (λ r e. nonsense (cc)) (judged s)) (plain s)

  of_inside : (k : ℕ) → Refusals s (λ r. inside_of s k ≡ Err r) NoList (SolidNumber k) Never
  unfolding inside_of enclosing_in inside_fault is_solid refuse_unless
  of_inside k = told s (twice_iff Err (λ q r e. cc) _ (λ r e. nonsense (cc)) (judged s) (inside_fault k))
      (asked s (within 1 2 k) true (within_iff 1 2 k) (λ h. no_alike))

  -- ---- the listing

  module _ (d : List ℕ) where
    abbrev count : ℕ
    count = length (listing_in (view_of s))

    abbrev fits : Judged
    fits = refuse_unless (leb (3 * count) (length d)) (ListTooShort count) (Ok tt)

    fits_gives : Gives 11 11 fits
    fits_gives = search gives

    room_iff : (n : ℕ) → (fits ≡ Err (ListTooShort n)) ↔ TooShort s d n
    room_iff n =
        Iff.trans (rule_here (leb_iff _ _) (ListTooShort count) (Ok tt) 12 (gives_none 12 12)) (
          λ h. let e : n ≡ count = cc in let l : ¬ (3 * count ≤ length d) = h.1 in (e, omega arith),
          λ h. let e = h.0 in let l = h.1 in (ap ListTooShort (sym e), λ k. omega arith),
        )

    module _ (d' : List ℕ) (x : Listed) (h : IsListed s d d' x) where
      at : (r : Refusal) → (x ≡ Err r) ↔ (and_then (judged s) fits ≡ Err r)
      unfolding listed_in list_fault
      at r = rw h.answer (twice_iff Err (λ q r e. cc) (Ok count) (λ r e. nonsense (cc)) (judged s) fits r)

      never_by : (r : Refusal) → 11 < check_order r → ¬ (x ≡ Err r)
      never_by r l e =
          ⊎_elim (λ k. omega (arith, (judge_gives limits s).turn r k)) (λ k. omega (arith, fits_gives.turn r k.1))
          ((then_refused (judged s) fits r).0 ((at r).0 e))

      of_listing : Refusals s (λ r. x ≡ Err r) (TooShort s d) Always Never
      of_listing =
          record {
            scene = λ r l. Iff.trans (at r) (Iff.trans (then_here (judged s) fits r 11
                (gives_wider (suc (check_order r)) 11 (omega (arith, scene_turn r l)) (omega arith) fits_gives)) (table.refused limits s r));
            room = λ n.
                Iff.trans (at (ListTooShort n))
                (then_next (judged s) fits (ListTooShort n) 1 10 (judge_gives limits s) (omega arith) (accepted limits s)
                (room_iff n));
            buffer = λ n. never_by (BufferTooShort n) (omega arith);
            lacking = (λ e. absurd (never_by NoSuchNumber (omega arith) e), λ h. absurd (h.1 tt));
            same = (λ e. absurd (never_by NotDistinct (omega arith) e), λ h. absurd h.2);
          }

      listing_kept : (r : Refusal) → x ≡ Err r → d' ≡ d
      unfolding held_in list_fault or_refuse
      listing_kept r e = h.held ∙ kept_by ((at r).0 e) (all_in (listing_in (view_of s)) d)
        where
          kept_by : {r : Refusal} → and_then (judged s) fits ≡ Err r → (l : List ℕ) →
              or_refuse (λ _. d) (judged s) (or_refuse (λ _. d) fits l) ≡ d
          kept_by e l = answered_then (λ _. d) (judged s) fits l ∙ rw e

  module _ (from : ℕ) (d d' : List ℕ) (x : Listed) (h : IsPart s from d d' x) where
    part_at : (r : Refusal) → (x ≡ Err r) ↔ (judged s ≡ Err r)
    part_at r =
        rw h.answer
        (answered_iff Err (λ q r e. cc) (Ok (length (listing_in (view_of s)))) (λ r e. nonsense (cc)) (judged s) r)

    of_part : Refusals s (λ r. x ≡ Err r) NoList Always Never
    of_part = told s part_at (plain s)

    part_kept : (r : Refusal) → x ≡ Err r → d' ≡ d
    unfolding or_refuse
    part_kept r e = let j = (part_at r).0 e in h.held ∙ rw j

pub answers : (s : List ℕ) → Answers s
answers s =
    record {
      sign = of_sign s;
      pierces = of_pierces s;
      mask = of_mask s;
      enclosed = of_enclosed s;
      record_shown = of_record s;
      shown_none = none_shown s;
      verdict = of_verdict s;
      counts = of_counts s;
      inside = of_inside s;
      listing = of_listing s;
      listing_kept = listing_kept s;
      part = of_part s;
      part_kept = part_kept s;
    }
