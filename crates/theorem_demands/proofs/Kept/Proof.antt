-- What was accepted is accepted still, with the same answers. Assumes nothing.
use Rattle.std.specs.Prelude.{◌≡◌, List, ◌≢◌, ℕ, ◌+◌, ◌≤◌, ◌<◌, pos, nat_abs, Ok, Err}
use Rattle.std.proofs.Math.Path.{refl, sym}
use Rattle.std.proofs.Common.{ap, subst, ◌∙◌, arith}
use Rattle.std.proofs.Math.Decide.{dec_lt}
use Rattle.std.proofs.Math.IntN.{◌+ℤ◌, ◌-ℤ◌, ◌*ℤ◌}
use Rattle.laws.specs.Lists.{Number}
use Rattle.laws.specs.Decides.{fails_iff}
use Rattle.scene.specs.Limits.{limits, limits_before}
use Rattle.scene.specs.Records.{verts}
use Rattle.scene.specs.Tables.{row_at, face_at, tables_of, row}
use Rattle.scene.specs.Read.{row_is, far_is}
use Rattle.scene.specs.declared.Row.{Row}
use Rattle.orient.specs.Terms.{powers, is_plus, factor, numbered, terms, orientation, point_at, positive_at, terms_at}
use Rattle.laws.specs.Sign.{sign, ◌or◌}
use Rattle.orient.specs.Laws.{factor_weight}
use Rattle.theorem_demands.specs.Words.{Point, FourPoints}
use Rattle.scene.specs.Faces.{Both, Sides, EdgeOk}
use Rattle.scene.specs.declared.Face.{Face}
use Rattle.scene.specs.declared.Refusal.{Refusal}
use Rattle.scene.specs.declared.Refusal.TheVariants.{Counts}
use Rattle.judge.specs.Judge.{refuse_unless, and_then, counts_ok, header_fault, coordinate_ok, weight_ok, point_fault}
use Rattle.judge.specs.Judge.{record_fault, records_fault, judged_at, judged}
use Rattle.judge.specs.Judge.{Judged}
use Rattle.rules.specs.Rules.{CountsOk, FileOk}
use Rattle.rules.proofs.Accepted.{opens_iff, counts_iff, accepted}
use Rattle.questions.specs.Answers.{or_refuse, sign_of, pierces_of, masked_of, refused, enclosed_of, counted_of, inside_of, verdict_of}
use Rattle.theorem_demands.specs.Kept.{Answers, Still, RulesOfWeights, by_weight, terms_by_weight, sign_by_weight, SameTerms, AllWeighted}
use Rattle.theorem_demands.specs.Kept.{SharedEdges, LargerModels, FarAtInfinity, FirstKernel}
use Rattle.theorem_demands.specs.Kept.Before.{judged_before}
use Rattle.theorem_demands.specs.Marked.Computing.{judging}
use Rattle.theorem_demands.proofs.Kept.Before.Proof.{least_one, before_accepted, before_weighs}
use Rattle.theorem_demands.proofs.Shift.Same.{pierces_same}

-- the scene's judgement comes first, and says nothing
taken : {X : Type 0} (refuse : Refusal → X) {j : Judged} → j ≡ Ok tt → (x : X) → or_refuse refuse j x ≡ x
unfolding or_refuse
taken refuse e x = ap (λ (j : Judged). or_refuse refuse j x) e

pub answers_of : (s : List ℕ) → judged s ≡ Ok tt → Answers s
unfolding sign_of pierces_of masked_of enclosed_of counted_of inside_of verdict_of
answers_of s e =
    record {
      sign = λ a b c d. taken Err e _;
      pierces = λ u v f. taken Err e _;
      mask = λ u v k. taken refused e _;
      enclosed = λ i. taken Err e _;
      counts = taken Err e _;
      inside = λ k. taken Err e _;
      verdict = taken Err e _;
      listing = λ d d' r h. (h.answer ∙ taken Err e _, h.held ∙ taken (λ _. d) e _);
      part = λ from d d' r h. (h.answer ∙ taken Err e _, h.held ∙ taken (λ _. d) e _);
    }

still : (s : List ℕ) → FileOk limits s → Still s
still s h = let e = (accepted limits s).1 h in record { accepted = e; answers = answers_of s e }

-- two is even
two_even : (fs : List Face) (f : Face) → Sides (λ v w. Number (Both v w) fs 2) f → Sides (EdgeOk fs) f
two_even fs f h = ((2, h.0, refl), (2, h.1, refl), (2, h.2, refl))

pub shared_edges : SharedEdges
shared_edges s h =
    still s
    (record {
      header = h.header;
      records = h.records;
      used = h.used;
      sides =
          λ i b.
          let o = h.sides i b in
          record { of_a = λ c. two_even _ (face_at s i) (o.of_a c); of_b = λ c. two_even _ (face_at s i) (o.of_b c) };
    })

-- ---- larger models: the limits of counts are all that moved

module _ (s : List ℕ) where
  wider : CountsOk limits_before s → CountsOk limits s
  wider c = omega arith

  same_header : counts_ok limits_before s ≡ counts_ok limits s → header_fault limits_before s ≡ header_fault limits s
  unfolding header_fault
  same_header e = rw e

  same_records : records_fault limits_before s ≡ records_fault limits s
  unfolding records_fault record_fault point_fault coordinate_ok weight_ok
  same_records = refl

  alike : CountsOk limits_before s → judged_at limits_before s ≡ judged s
  unfolding judged_at
  alike c = rw (same_header ((counts_iff limits_before s).1 c ∙ sym ((counts_iff limits s).1 (wider c))), same_records)

  refused_then : judged s ≡ Ok tt → (CountsOk limits_before s → ⊥) → judged_at limits_before s ≡ Err Counts
  unfolding judged_at header_fault refuse_unless and_then
  refused_then e n =
      let h = (accepted limits s).0 e in
      rw ((opens_iff s).1 h.header.opens, (fails_iff _ (counts_iff limits_before s)).1 n)

pub larger_models : LargerModels
larger_models s =
    record {
      judged_alike = alike s;
      accepted_still = λ e. still s ((accepted limits s).0 (sym (alike s ((accepted limits_before s).0 e).header.counts) ∙ e));
      refused_then = refused_then s;
    }

-- ---- a far point at infinity: where each weight is not 0, it is the factor of its shift

module _ (s : List ℕ) (h : RulesOfWeights s) where
  file_ok : FileOk limits s
  file_ok =
      record {
        header = h.header;
        records =
            λ k a b.
            let r = h.records k a b in
            record {
              mark = r.mark;
              coordinates = r.coordinates;
              weight = λ j c e. let w = r.weight j c e in omega (arith, least_one j);
              somewhere = λ e z. let w = r.weight 0 (omega arith) e in let n = ap nat_abs z.w in omega arith;
              corners = r.corners;
            };
        used = h.used;
        sides = h.sides;
      }

  row_weighs : (j : ℕ) → j ≤ verts s → (row_at s j).w ≢ pos 0
  row_weighs j b e =
      let w = (h.records (j + 1) (omega arith) (omega arith)).weight j b refl in
      let n = ap nat_abs e in
      omega arith

  point_weighs : (i : ℕ) → 1 ≤ i → i ≤ verts s + 1 → (row (tables_of s) i).w ≢ pos 0
  point_weighs i a b = go (dec_lt (verts s) i)
    where
      go : Dec (verts s < i) → (row (tables_of s) i).w ≢ pos 0
      go (no c) = subst (λ (r : Row). r.w ≢ pos 0) (sym (row_is s i a (omega arith))) (row_weighs i (omega arith))
      go (yes c) = subst (λ (r : Row). r.w ≢ pos 0) (sym (far_is s (omega arith))) (row_weighs 0 (omega arith))

  factor_here : (i : ℕ) → 1 ≤ i → i ≤ verts s + 1 → factor (row (tables_of s) i).w ≡ (row (tables_of s) i).w
  factor_here i a b = factor_weight (row (tables_of s) i).w (point_weighs i a b)

  numbered_same : (i : ℕ) → Point s i → numbered (point_at (row (tables_of s)) i) ≡ by_weight s i
  numbered_same i h =
      let r = row (tables_of s) i in
      let e = factor_here i h.0 h.1 in
      λ j. record { x = r.x; y = r.y; z = r.z; w = r.w; k = e j; i = pos i }

  same_powers : (a b c d : ℕ) → FourPoints s a b c d →
      terms (point_at (row (tables_of s)) a) (point_at (row (tables_of s)) b) (point_at (row (tables_of s)) c) (point_at (row (tables_of s)) d)
      ≡ terms_by_weight s a b c d
  unfolding terms
  same_powers a b c d f =
      let na = numbered_same a f.0 in
      let nb = numbered_same b f.1 in
      let nc = numbered_same c f.2 in
      let nd = numbered_same d f.3 in
      λ j. powers (pos 0) ◌+ℤ◌ ◌-ℤ◌ ◌*ℤ◌ (na j) (nb j) (nc j) (nd j)

  same_terms : (a b c d : ℕ) → FourPoints s a b c d → SameTerms s a b c d
  unfolding terms_at positive_at orientation
  same_terms a b c d f =
      let e = same_powers a b c d f in
      record {
        t0 = λ j. (e j).e0;
        t1 = λ j. (e j).e1;
        t2 = λ j. (e j).e2;
        t3 = λ j. (e j).e3;
        positive = λ j. is_plus (sign (e j).e0 or (sign (e j).e1 or sign (e j).e2 or sign (e j).e3));
      }

pub far_at_infinity : FarAtInfinity
far_at_infinity s h =
    record {
      still = still s (file_ok s h);
      terms = same_terms s h;
      pierces =
          pierces_same (verts s + 1) (positive_at (row (tables_of s))) (sign_by_weight s)
          (λ a b c d f. (same_terms s h a b c d (f.a_in, f.b_in, f.c_in, f.d_in)).positive) (let c = h.header.counts in omega arith);
    }

-- ---- what the judge of document 01 accepted keeps the rules of weights

before_weighted : (s : List ℕ) → judged_before s ≡ Ok tt → AllWeighted s
before_weighted s e =
    let a = before_accepted s e in
    let h = (accepted limits s).0 (sym (alike s ((accepted limits_before s).0 a).header.counts) ∙ a) in
    far_at_infinity s
    (record {
      header = h.header;
      records =
          λ k p q.
          let r = h.records k p q in
          record {
            mark = r.mark;
            coordinates = r.coordinates;
            weight = λ j c d. (before_weighs s e j c, (r.weight j c d).1);
            corners = r.corners;
          };
      used = h.used;
      sides = h.sides;
    })

pub first_kernel : FirstKernel
unfolding judging
first_kernel = record { kept = before_weighted; printed_scene = refl }
