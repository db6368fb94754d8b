-- Demand 2, proved. Assumes nothing.
use Rattle.std.specs.Prelude.{◌≡◌, ◌↔◌, true, false, Ok, Err}
use Rattle.std.proofs.Math.Path.{refl, sym, ap, subst}
use Rattle.std.proofs.Common.{◌∙◌}
use mathlib.Core.Logic.Iff
use Rattle.std.proofs.Math.Bool.{Bool}
use Rattle.std.proofs.lemmas.Bool.{false≢true}
use mathlib.Core.List.{List}
use Prim.Native.Nat.{ℕ, ◌+◌, ◌*◌, ◌≤◌}
use native.Mathlib.Omega.{arith}
use Rattle.std.specs.Int.Count.{ones}
use Rattle.std.proofs.Math.ListN.{length}
use Rattle.laws.specs.Decides.{leb_iff}
use Rattle.laws.specs.Range.{count_of, count_same}
use Rattle.laws.specs.Lists.{Number, count_run, number_iff, number_once}
use Rattle.laws.specs.Never.{nonsense}
use Rattle.scene.specs.Limits.{limits, within}
use Rattle.scene.specs.Records.{faces_in_a, faces_in_b, verts}
use Rattle.scene.specs.Tables.{tables_of, row, face}
use Rattle.scene.specs.declared.Refusal.{Refusal}
use Rattle.judge.specs.Judge.{judged, and_then, refuse_unless}
use Rattle.judge.specs.Judge.{Judged}
use Rattle.rules.specs.Rules.{FileOk}
use Rattle.judge.specs.Tests.{within_iff, rule_iff, then_iff}
use Rattle.rules.proofs.Accepted as rules
use Rattle.rules.proofs.Bridge.{limits_fit}
use Rattle.rules.proofs.Files.{accepted_files}
use Rattle.orient.specs.Terms.{positive_at, terms_at}
use Rattle.orient.specs.declared.Terms.{Terms}
use Rattle.pierce.specs.Formula.{pierced}
use Rattle.questions.specs.Hits.{enclosed_vertex, enclosed_count}
use Rattle.questions.specs.WritePairs.{all_in}
use Rattle.scene.specs.View.{view_of, solid}
use Rattle.scene.specs.declared.Solid.{Solid}
use Rattle.questions.specs.Laws.{answered_then}
use Rattle.questions.specs.Answers.{or_refuse, enclosed_in, masked_in, pierces_in, sign_in, sign_fault, sign_of, pierces_fault, pierces_of}
use Rattle.questions.specs.Answers.{mask_in, mask_fault, masked_of, refused, faces_are, is_enclosed, enclosed_fault, enclosed_of, counts_in}
use Rattle.questions.specs.Answers.{counted_of, verdict_in, verdict_of, list_fault, listed_in, held_in, IsListed, is_vertex, listing_in}
use Rattle.questions.specs.Answers.{pierce_view, inside_in, inside_fault, enclosing_in, inside_of, is_solid, IsPart}
use Rattle.questions.specs.Types.{Signed, Answer, Concluded}
use Rattle.questions.specs.declared.Counts.{Counts}
use Rattle.questions.specs.declared.Verdict.{Verdict}
use Rattle.questions.specs.declared.Verdict.TheVariants as verdict
use Rattle.questions.specs.Types.{Listed}
use Rattle.theorem_demands.specs.Words.{Vertex, Enclosed, EdgeAndFace, AlikeOrCorner, EdgeAndSolid, AlikeOrVertex}
use Rattle.theorem_demands.specs.Exact.{VerdictIs, ListedIs, numbered, MaskIs, MasksAre, EnclosedIs, CountsAre, SignIs, PiercesIs}
use Rattle.theorem_demands.specs.Exact.{Exact}
use Rattle.theorem_demands.specs.Exact.{PartIs, InsideIs}
use Rattle.theorem_demands.proofs.Answers.Tests.{asked_ok, answered_ok, twice_ok, points_iff, edge_iff}
use Rattle.theorem_demands.proofs.Answers.Tests.{mask_iff, alike_points, alike_corner, alike_vertex}
use Rattle.theorem_demands.proofs.Exact.Mask.{mask, mask_is, mask_once, enclosed_in_law}
use Rattle.theorem_demands.proofs.Exact.Pairs.{listing_is}
use Rattle.theorem_demands.proofs.Exact.Verdict.{Says, verdict_iff}
use Rattle.theorem_demands.proofs.Words.Solids.{InWords, a_worded, b_worded}

module _ (s : List ℕ) where
  accepted : (judged s ≡ Ok tt) ↔ FileOk limits s
  accepted = rules.accepted limits s

  -- ---- the verdict

  said : (v : Verdict) → (verdict_of s ≡ Ok v) ↔ (FileOk limits s × Says s v)
  unfolding verdict_of
  said v =
      Iff.trans (answered_ok Err (Ok v) (λ r e. nonsense (cc)) (judged s) (Ok (verdict_in (view_of s)))) (
        λ h. (accepted.0 h.0, (verdict_iff s h.0 v).0 (same h.1)),
        λ h. let ok = accepted.1 h.0 in (ok, ap Ok ((verdict_iff s ok v).1 h.1)),
      )
    where
      same : {x y : Verdict} → ◌≡◌ {A = Concluded} (Ok x) (Ok y) → x ≡ y
      same e = cc

  verdict_is : VerdictIs s
  verdict_is =
      record {
        cross = λ u v f. said (verdict.Cross u v f);
        a_in_b_law = λ p. Iff.trans (said (verdict.AInB p)) (λ h. (h.0, h.1.0, h.1.1), λ h. (h.0, (h.1, h.2)));
        b_in_a_law = λ p. Iff.trans (said (verdict.BInA p))
            (λ h. (h.0, h.1.0, h.1.1, h.1.2), λ h. (h.0, (h.1, h.2, h.3)));
        apart = Iff.trans (said verdict.Apart)
            (λ h. (h.0, h.1.0, h.1.1, h.1.2), λ h. (h.0, (h.1, h.2, h.3)));
      }

  -- ---- the lent list

  module _ (d d' : List ℕ) (x : Listed) (h : IsListed s d d' x) where
    abbrev fault : Judged
    fault = and_then (judged s) (list_fault (view_of s) d)

    fits : (n : ℕ) → (x ≡ Ok n) ↔ ((fault ≡ Ok tt) × ◌≡◌ {A = Listed} (Ok (length (listing_in (view_of s)))) (Ok n))
    unfolding listed_in
    fits n =
        rw h.answer
        (twice_ok Err (Ok n) (λ r e. nonsense (cc)) (judged s) (list_fault (view_of s) d)
        (Ok (length (listing_in (view_of s)))))

    fault_none : (fault ≡ Ok tt) ↔ (FileOk limits s × (3 * length (listing_in (view_of s)) ≤ length d))
    unfolding list_fault
    fault_none =
        Iff.trans (then_iff _ _) (Iff.and accepted (Iff.trans (rule_iff _ _ _) (λ k. (leb_iff _ _).0 k.0, λ k. ((leb_iff _ _).1 k, refl))))

    listed_is : ListedIs s d d' x
    unfolding all_in or_refuse held_in
    listed_is =
        record {
          count = λ n. Iff.trans (fits n) (
            λ k. let e : n ≡ length (listing_in (view_of s)) = same k.1 in let f = fault_none.0 k.0 in (f.0, e, rw e f.1),
            λ k. let e = k.1 in (fault_none.1 (k.0, rw e at k.2), ap Ok (sym e)),
          );
          held = λ n e. let k = (fits n).0 e in let l : n ≡ length (listing_in (view_of s)) = same k.1 in
              h.held ∙ answered_then (λ _. d) (judged s) (list_fault (view_of s) d) (all_in (listing_in (view_of s)) d) ∙ rw (k.0, l);
        }
      where
        same : {m n : ℕ} → ◌≡◌ {A = Listed} (Ok m) (Ok n) → n ≡ m
        same e = cc

  module _ (from : ℕ) (d d' : List ℕ) (x : Listed) (h : IsPart s from d d' x) where
    part_told : (n : ℕ) → (x ≡ Ok n) ↔ ((judged s ≡ Ok tt) × ◌≡◌ {A = Listed} (Ok (length (listing_in (view_of s)))) (Ok n))
    part_told n =
        rw h.answer
        (answered_ok Err (Ok n) (λ r e. nonsense (cc)) (judged s) (Ok (length (listing_in (view_of s)))))

    part_is : PartIs s from d d' x
    unfolding or_refuse
    part_is =
        record {
          count = λ n. Iff.trans (part_told n) (Iff.and accepted (λ e. cc, λ e. ap Ok (sym e)));
          held = λ n e. let k = ((part_told n).0 e).0 in h.held ∙ rw k;
        }

  -- ---- masks

  masked : (u v k behind n : ℕ) → mask_in (view_of s) u v k ≡ mask s u v behind n → (m o : ℕ) →
      (masked_of s u v k ≡ faces_are m o) ↔ (FileOk limits s × EdgeAndSolid s u v k × ¬ AlikeOrVertex s u v k × MaskIs s u v behind n m o)
  unfolding masked_of masked_in mask_fault
  masked u v k behind n e m o =
      Iff.trans (twice_ok refused (faces_are m o) (λ r e. nonsense (cc)) (judged s) (mask_fault (view_of s) u v k)
      (faces_are (mask_in (view_of s) u v k) (ones (mask_in (view_of s) u v k))))
      (Iff.trans (Iff.and (asked_ok s _ _ (mask_iff s u v k) (alike_vertex s u v k)) same)
      (λ h. (h.0.0, h.0.1, h.0.2, h.1), λ h. ((h.0, h.1, h.2), h.3)))
    where
      same : (faces_are (mask_in (view_of s) u v k) (ones (mask_in (view_of s) u v k)) ≡ faces_are m o) ↔ MaskIs s u v behind n m o
      same = (
        λ g.
            let a : mask s u v behind n ≡ m = cc in
            let b : ones (mask s u v behind n) ≡ o = cc in
            subst (MaskIs s u v behind n m) b
            (subst (λ (m : ℕ). MaskIs s u v behind n m (ones (mask s u v behind n))) a (mask_is s u v behind n)),
        λ h.
            let p = mask_once s u v behind n m o h in
            let a : mask_in (view_of s) u v k ≡ m = e ∙ sym p.0 in
            let b : ones (mask_in (view_of s) u v k) ≡ o = ap ones e ∙ sym p.1 in
            ap (λ (m : ℕ). faces_are m (ones (mask_in (view_of s) u v k))) a ∙ ap (faces_are m) b,
      )

  masks_are : (u v m o : ℕ) → MasksAre s u v m o
  unfolding mask_in solid
  masks_are u v m o = record { of_a = masked u v 1 0 (faces_in_a s) refl m o; of_b = masked u v 2 (faces_in_a s) (faces_in_b s) refl m o }

  -- ---- the sign, piercing and enclosure

  sign_is : (a b c d : ℕ) (t : Terms) (p : Bool) → (sign_of s a b c d ≡ Ok (t, p)) ↔ (FileOk limits s × SignIs s a b c d t p)
  unfolding sign_of sign_in sign_fault
  sign_is a b c d t p =
      Iff.trans (twice_ok Err (Ok (t, p)) (λ r e. nonsense (cc)) (judged s) (sign_fault (view_of s) a b c d)
      (Ok (terms_at (row (tables_of s)) a b c d, positive_at (row (tables_of s)) a b c d)))
      (Iff.trans (Iff.and (asked_ok s _ _ (points_iff s a b c d) (λ h. alike_points s a b c d)) Iff.rfl) (
        λ h. let e = parts h.1 in (h.0.0, record { points = h.0.1; different = h.0.2; terms = sym e.0; sign = sym e.1 }),
        λ h. let r = h.1 in (
          (h.0, r.points, r.different),
          ap (λ (t : Terms). Ok (t, positive_at (row (tables_of s)) a b c d)) (sym r.terms) ∙ ap (λ (p : Bool). Ok (t, p)) (sym r.sign),
        ),
      ))
    where
      parts : {x y : Terms × Bool} → ◌≡◌ {A = Signed} (Ok x) (Ok y) → (x.0 ≡ y.0) × (x.1 ≡ y.1)
      parts {x} {y} e = let p : x ≡ y = cc in (ap (λ (z : Terms × Bool). z.0) p, ap (λ (z : Terms × Bool). z.1) p)

  yes_iff : (b : Bool) → (◌≡◌ {A = Answer} (Ok b) (Ok true)) ↔ (b ≡ true)
  yes_iff true = (λ e. refl, λ e. refl)
  yes_iff false = (λ e. nonsense (cc), λ e. absurd (false≢true e))

  no_iff : (b : Bool) → (◌≡◌ {A = Answer} (Ok b) (Ok false)) ↔ ¬ (b ≡ true)
  no_iff true = (λ e. nonsense (cc), λ n. absurd (n refl))
  no_iff false = (λ e. false≢true, λ e. refl)

  pierces_is : (u v f : ℕ) → PiercesIs s u v f
  unfolding pierces_of pierces_in pierces_fault
  pierces_is u v f =
      record { yes = by (Ok true) (λ r e. nonsense (cc)) (yes_iff test); no = by (Ok false) (λ r e. nonsense (cc)) (no_iff test) }
    where
      test : Bool
      test = pierced (verts s + 1) (row (tables_of s)) u v (face (tables_of s) f)

      by : {X : Type 0} (x : Answer) → ((r : Refusal) → ¬ (Err r ≡ x)) → (Ok test ≡ x) ↔ X →
          (pierces_of s u v f ≡ x) ↔ (FileOk limits s × EdgeAndFace s u v f × ¬ AlikeOrCorner s u v f × X)
      by x n e =
          Iff.trans (twice_ok Err x n (judged s) (pierces_fault (view_of s) u v f) (Ok test))
          (Iff.trans (Iff.and (asked_ok s _ _ (edge_iff s u v f) (λ h. alike_corner s u v f)) e)
          (λ h. (h.0.0, h.0.1, h.0.2, h.1), λ h. ((h.0, h.1, h.2), h.3)))

  enclosed_is : EnclosedIs s
  unfolding enclosed_of enclosed_in enclosed_fault is_vertex
  enclosed_is =
      record {
        of_a = enclosed_in_law s (a_worded s);
        of_b = enclosed_in_law s (b_worded s);
        yes = λ i. by i (Ok true) (λ r e. nonsense (cc)) (yes_iff (is_enclosed (view_of s) i));
        no = λ i. by i (Ok false) (λ r e. nonsense (cc)) (no_iff (is_enclosed (view_of s) i));
      }
    where
      by : {X : Type 0} (i : ℕ) (x : Answer) → ((r : Refusal) → ¬ (Err r ≡ x)) → (Ok (is_enclosed (view_of s) i) ≡ x) ↔ X →
          (enclosed_of s i ≡ x) ↔ (FileOk limits s × Vertex s i × X)
      by i x n e =
          Iff.trans (twice_ok Err x n (judged s) (enclosed_fault (view_of s) i) (Ok (is_enclosed (view_of s) i)))
          (Iff.trans (Iff.and (Iff.trans (then_iff _ _) (Iff.and accepted
          (Iff.trans (rule_iff _ _ _) (λ h. (within_iff 1 (verts s) i).0 h.0, λ h. ((within_iff 1 (verts s) i).1 h, refl))))) e)
          (λ h. (h.0.0, h.0.1, h.1), λ h. ((h.0, h.1), h.2)))

  -- ---- counts

  number_in : {k : Solid} {n : ℕ} {Of Own Other : ℕ → Type 0} → InWords s k n Of Own Other →
      Number (Enclosed s) (numbered (k.vert0 + 1) k.verts) (enclosed_count (pierce_view (view_of s)) k)
  unfolding enclosed_count
  number_in {k} w =
      let e = is_enclosed (view_of s) in
      let a : ℕ = k.vert0 + 1 in
      (number_iff (Enclosed s) e (λ i. Iff.rfl) (numbered a k.verts)
      (count_of (enclosed_vertex (pierce_view (view_of s)) k) a (a + k.verts))).0
      (sym (count_same (enclosed_vertex (pierce_view (view_of s)) k) e a (a + k.verts)
      (λ i l m. w.inside i ((w.vertices i).0 (omega arith, omega arith)))
      ∙ count_run (λ i. i) e e a (a + k.verts) k.verts (omega arith) (λ i. refl)))

  counts_are : (c : Counts) → (counted_of s ≡ Ok c) ↔ (FileOk limits s × CountsAre s c)
  unfolding counted_of counts_in inside_in solid
  counts_are c =
      Iff.trans (answered_ok Err (Ok c) (λ r e. nonsense (cc)) (judged s) (Ok (counts_in (view_of s))))
      (Iff.and accepted (
        λ e. let d : counts_in (view_of s) ≡ c = cc in
            subst (CountsAre s) d (record { pairs = refl; a_in_b_law = number_in (a_worded s); b_in_a_law = number_in (b_worded s) }),
        λ h.
            let p = h.pairs in
            let a = number_once h.a_in_b_law (number_in (a_worded s)) in
            let b = number_once h.b_in_a_law (number_in (b_worded s)) in
            let same : counts_in (view_of s) ≡ c = λ i. record { pairs = sym p i; a_in_b = sym a i; b_in_a = sym b i } in
            ap Ok same,
      ))

  inside_is : (n : ℕ) → InsideIs s n
  unfolding inside_of enclosing_in inside_fault is_solid within refuse_unless or_refuse inside_in solid
  inside_is n = record { of_a = by (number_in (a_worded s)); of_b = by (number_in (b_worded s)) }
    where
      by : {l : List ℕ} {m : ℕ} → Number (Enclosed s) l m →
          (or_refuse Err (judged s) (Ok m) ≡ Ok n) ↔ (FileOk limits s × Number (Enclosed s) l n)
      by {l} h =
          Iff.trans (answered_ok Err (Ok n) (λ r e. nonsense (cc)) (judged s) _)
          (Iff.and accepted (λ e. subst (Number (Enclosed s) l) (cc) h, λ k. ap Ok (number_once h k)))

-- ---- the demand

pub exact : (s : List ℕ) → Exact s
exact s =
    record {
      accepted = accepted s;
      files = accepted_files limits limits_fit s;
      sign = sign_is s;
      pierces = pierces_is s;
      masks = masks_are s;
      enclosed = enclosed_is s;
      verdict = verdict_is s;
      listing = λ ok. listing_is s ((accepted s).1 ok);
      listed = listed_is s;
      part = part_is s;
      inside = inside_is s;
      counts = counts_are s;
    }
