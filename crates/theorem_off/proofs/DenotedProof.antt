-- The scene of two texts is the one that they denote: `Denoted.IsScene` of what the contract of `scene_of` says. Assumes nothing.
use Rattle.std.specs.Prelude.{ℕ, ◌+◌, ◌≤◌, ◌<◌, ◌⊎◌, ◌↔◌, Bool, cond, ◌&&◌, List, ◌++◌, take, drop, Result, Ok, Err}
use Rattle.std.proofs.Math.Path.{◌≡◌, refl, sym, ap, subst}
use Rattle.std.proofs.Common.{◌∙◌}
use Rattle.std.proofs.Math.Logic.{inl, inr, ⊎_elim}
use Rattle.std.proofs.Math.Bool.{true, false}
use Rattle.std.proofs.lemmas.Bool.{false≢true}
use native.Mathlib.Omega.{arith}
use borrow.Author.Tests.{leb-true, leb-false}
use Rattle.std.proofs.Math.Dec.{leb}
use Rattle.std.proofs.Math.ListN.{length}
use Rattle.std.proofs.Math.Seq.{take-append_seam, drop-append_seam}
use Rattle.laws.specs.Lists.{length_run}
use Rattle.laws.specs.Decides.{and_iff}
use Rattle.scene.specs.Limits.{limits}
use Rattle.scene.specs.Tables.{Tables, tables_of}
use Rattle.scene.specs.declared.Refusal.{Refusal}
use Rattle.scene.specs.declared.Refusal.TheVariants as refusal
use Rattle.judge.specs.Judge.{judged}
use Rattle.judge.specs.Tests.{within_iff, never}
use Rattle.judge.specs.Judge.{Judged}
use Rattle.rules.specs.Rules.{Between}
use Rattle.rules.specs.TableRules.{TablesOk}
use Rattle.rules.proofs.Bridge.{limits_fit}
use Rattle.rules.proofs.Written.{file_length}
use Rattle.rules.specs.ReadBack.{read_back}
use Rattle.rules.specs.Write.{bytes_of}
use Rattle.off_form.specs.Form.{form_of, vertices_of, faces_of}
use Rattle.off_form.specs.declared.Flaw.{Flaw}
use Rattle.off_form.specs.declared.Flaw.TheVariants as flaw
use Rattle.off_solids.specs.Solid.{row_of, face_of, denoted}
use Rattle.off_solids.specs.Fitted.{fitted, scene_of}
use Rattle.off_solids.specs.declared.points.Point.{Point}
use Rattle.off_scene.specs.Made.{after_text, after_judge, counts_fit, placed, judged_of, counted_of, second_of, made_of, left_by}
use Rattle.off_scene.specs.Made as made
use Rattle.off_scene.specs.declared.Fault.{Fault}
use Rattle.off_scene.specs.declared.Fault.TheVariants.{Outside, Sides, OfScene}
use Rattle.off_scene.proofs.scene_of.Reads as scene-of
use Rattle.theorem_off.specs.Denoted.{long_in, CountsIn, GroundsIn, Lacks, Fits, Formed, IsScene}
use Rattle.theorem_off.specs.Capped.{tables_kept}
use Rattle.theorem_off.proofs.Grounds.{file_of, va, vb, fa, fb, judged_accepted, judged_refused}

-- ---- a text's reading comes first

-- not one of a text's own refusals
pub record Plain (m : Result ℕ Fault) : Type 0 where
  pub outside : (p : ℕ) → Err (Outside p) ≡ m → ⊥
  pub sides : (p : ℕ) → Err (Sides p) ≡ m → ⊥

scene_plain : (n : ℕ) → Plain (Ok n)
scene_plain n =
    record {
      outside = λ p e. let z : ◌≡◌ {A = ℕ} 0 1 = cc in omega arith;
      sides = λ p e. let z : ◌≡◌ {A = ℕ} 0 1 = cc in omega arith;
    }

refusal_plain : (q : Refusal) → Plain (Err (OfScene q))
refusal_plain q =
    record {
      outside = λ p e. let z : ◌≡◌ {A = ℕ} 0 1 = cc in omega arith;
      sides = λ p e. let z : ◌≡◌ {A = ℕ} 0 1 = cc in omega arith;
    }

text_iff : (base : ℕ) (rest m : Result ℕ Fault) → Plain m → (x : Result ℕ Flaw) →
    (after_text base x rest ≡ m) ↔ (((k : ℕ) × (x ≡ Ok k)) × (rest ≡ m))
text_iff base rest m plain (Ok k) = (λ e. ((k, refl), e), λ h. h.1)
text_iff base rest m plain (Err (flaw.Outside p)) = (
  λ e. absurd (plain.outside (base + p) e),
  λ h. absurd (let e = h.0.1 in let z : ◌≡◌ {A = ℕ} 0 1 = cc in omega arith),
)
text_iff base rest m plain (Err (flaw.Sides p)) = (
  λ e. absurd (plain.sides (base + p) e),
  λ h. absurd (let e = h.0.1 in let z : ◌≡◌ {A = ℕ} 0 1 = cc in omega arith),
)

module _ (a b : List ℕ) (far : Point) (room : ℕ) (m : Result ℕ Fault) (plain : Plain m) where
  both_iff : {Q : Type 0} → (counted_of a b far room ≡ m) ↔ Q → (made_of a b far room ≡ m) ↔ (Formed a b × Q)
  both_iff q =
      let x = text_iff 0 (second_of a b far room) m plain (form_of a) in
      let y = text_iff (length a) (counted_of a b far room) m plain (form_of b) in (
        λ e. let g = x.0 e in let h = y.0 g.1 in (record { first = g.0; second = h.0 }, q.0 h.1),
        λ h. x.1 (h.0.first, y.1 (h.0.second, q.1 h.1)),
      )

-- ---- the room, the judge and the counts

counts_of : (t : Tables) → TablesOk limits t → CountsIn limits t
counts_of t h = record { vertices_a_law = h.a.vertices; faces_a_law = h.a.number; vertices_b_law = h.b.vertices; faces_b_law = h.b.number }

-- where the counts are outside their limits, nothing else is refused
counts_only : (t : Tables) → (CountsIn limits t → ⊥) → (q : Refusal) → GroundsIn limits t q → refusal.Counts ≡ q
counts_only t n refusal.Counts g = refl
counts_only t n refusal.Opening g = absurd g
counts_only t n refusal.Length g = absurd g
counts_only t n (refusal.Mark k) g = absurd g
counts_only t n (refusal.Coordinate k) g = absurd (n g.0.counts)
counts_only t n (refusal.Weight k) g = absurd (n g.0.counts)
counts_only t n (refusal.FarAllZero k) g = absurd (n g.0.counts)
counts_only t n (refusal.Corner k) g = absurd (n g.0.counts)
counts_only t n (refusal.Unused p) g = absurd (n g.0.counts)
counts_only t n (refusal.Edge k) g = absurd (n g.2.counts)
counts_only t n (refusal.ListTooShort p) g = absurd g
counts_only t n refusal.NoSuchNumber g = absurd g
counts_only t n refusal.NotDistinct g = absurd g
counts_only t n (refusal.BufferTooShort p) g = absurd g

file_long : (t : Tables) → length (file_of t) ≡ long_in t
file_long t = omega (arith, file_length (fitted t), va t, vb t, fa t, fb t)

module _ (t : Tables) (room : ℕ) where
  abbrev s : List ℕ
  s = file_of t

  abbrev lacking : Result ℕ Fault
  lacking = Err (OfScene (refusal.BufferTooShort (length s)))

  scene_placed : (n : ℕ) → (placed s room ≡ Ok n) ↔ ((n ≡ long_in t) × (n ≤ room))
  unfolding placed
  scene_placed n = go (leb (length s) room) refl
    where
      go : (b : Bool) → leb (length s) room ≡ b → (cond b (Ok (length s)) lacking ≡ Ok n) ↔ ((n ≡ long_in t) × (n ≤ room))
      go true e =
          let l = leb-true (length s) room e in
          let d = file_long t in (
            λ h. let k : length s ≡ n = cc in (omega arith, omega arith),
            λ h. let k : length s ≡ n = omega arith in ap Ok k,
          )
      go false e =
          let l = leb-false (length s) room e in
          let d = file_long t in (
            λ h. absurd (let z : ◌≡◌ {A = ℕ} 0 1 = cc in omega arith),
            λ h. absurd (omega arith),
          )

  lacks_placed : (q : Refusal) → (placed s room ≡ Err (OfScene q)) ↔ ((room < long_in t) × (q ≡ refusal.BufferTooShort (long_in t)))
  unfolding placed
  lacks_placed q = go (leb (length s) room) refl
    where
      go : (b : Bool) → leb (length s) room ≡ b →
          (cond b (Ok (length s)) lacking ≡ Err (OfScene q)) ↔ ((room < long_in t) × (q ≡ refusal.BufferTooShort (long_in t)))
      go true e =
          let l = leb-true (length s) room e in
          let d = file_long t in (
            λ h. absurd (let z : ◌≡◌ {A = ℕ} 0 1 = cc in omega arith),
            λ h. absurd (omega (arith, h.0)),
          )
      go false e =
          let l = leb-false (length s) room e in
          let d = file_long t in (
            λ h. let k : refusal.BufferTooShort (length s) ≡ q = cc in (omega arith, sym k ∙ ap refusal.BufferTooShort d),
            λ h. ap (λ (q : Refusal). Err (OfScene q)) (ap refusal.BufferTooShort d ∙ sym h.1),
          )

  scene_judged : (n : ℕ) → (judged_of s room ≡ Ok n) ↔ Fits t room n
  unfolding judged_of
  scene_judged n = go (judged s) (judged_accepted t)
    where
      go : (j : Judged) → (j ≡ Ok tt) ↔ TablesOk limits t → (after_judge j (placed s room) ≡ Ok n) ↔ Fits t room n
      go (Ok _) e = (
        λ h. let p = (scene_placed n).0 h in record { ok = e.0 refl; long = p.0; fits = p.1 },
        λ h. (scene_placed n).1 (h.long, h.fits),
      )
      go (Err r) e = (
        λ h. absurd (let z : ◌≡◌ {A = ℕ} 0 1 = cc in omega arith),
        λ h. absurd (never (sym (e.1 h.ok))),
      )

  refused_judged : (q : Refusal) → (judged s ≡ Err q) ↔ GroundsIn limits t q →
      (judged_of s room ≡ Err (OfScene q)) ↔ (GroundsIn limits t q ⊎ Lacks t room q)
  unfolding judged_of
  refused_judged q = go (judged s) (judged_accepted t)
    where
      go : (j : Judged) → (j ≡ Ok tt) ↔ TablesOk limits t → (j ≡ Err q) ↔ GroundsIn limits t q →
          (after_judge j (placed s room) ≡ Err (OfScene q)) ↔ (GroundsIn limits t q ⊎ Lacks t room q)
      go (Ok _) e g = (
        λ h. let p = (lacks_placed q).0 h in inr (record { ok = e.0 refl; short = p.0; is = p.1 }),
        ⊎_elim (λ x. absurd (never (g.1 x))) (λ x. (lacks_placed q).1 (x.short, x.is)),
      )
      go (Err r) e g = (
        λ h. inl (g.0 (let k : r ≡ q = cc in ap Err k)),
        ⊎_elim (λ x. let d = g.1 x in let k : r ≡ q = cc in ap (λ (q : Refusal). Err (OfScene q)) k)
            (λ x. absurd (never (sym (e.1 x.ok)))),
      )

  scene_counted : (b : Bool) → (b ≡ true) ↔ CountsIn limits t → (n : ℕ) →
      (cond b (judged_of s room) (Err (OfScene refusal.Counts)) ≡ Ok n) ↔ Fits t room n
  scene_counted true e n = scene_judged n
  scene_counted false e n = (
    λ h. absurd (let z : ◌≡◌ {A = ℕ} 0 1 = cc in omega arith),
    λ h. absurd (false≢true (e.1 (counts_of t h.ok))),
  )

  refused_counted : (b : Bool) → (b ≡ true) ↔ CountsIn limits t → (q : Refusal) →
      (cond b (judged_of s room) (Err (OfScene refusal.Counts)) ≡ Err (OfScene q)) ↔ (GroundsIn limits t q ⊎ Lacks t room q)
  refused_counted true e q = refused_judged q (judged_refused t (e.0 refl) q)
  refused_counted false e q =
      let n : CountsIn limits t → ⊥ = λ c. false≢true (e.1 c) in (
        λ h. let k : refusal.Counts ≡ q = cc in inl (subst (GroundsIn limits t) k n),
        ⊎_elim (λ g. ap (λ (q : Refusal). Err (OfScene q)) (counts_only t n q g)) (λ x. absurd (n (counts_of t x.ok))),
      )

-- ---- two texts

module _ (a b : List ℕ) (far : Point) where
  abbrev t : Tables
  t = denoted a b far

  counts_fit_law : ((counts_fit a && counts_fit b) ≡ true) ↔ CountsIn limits (denoted a b far)
  unfolding counts_fit
  counts_fit_law =
      let l = limits in
      let x = length_run (row_of a) 0 (vertices_of a) in
      let y = length_run (face_of a) 0 (faces_of a) in
      let u = length_run (row_of b) 0 (vertices_of b) in
      let v = length_run (face_of b) 0 (faces_of b) in (
        λ e.
            let h = simp (and_iff, within_iff) at e in
            record {
              vertices_a_law = subst (Between l.least_vertices l.most_vertices) (sym x) h.0.0;
              faces_a_law = subst (Between l.least_faces l.most_faces) (sym y) h.0.1;
              vertices_b_law = subst (Between l.least_vertices l.most_vertices) (sym u) h.1.0;
              faces_b_law = subst (Between l.least_faces l.most_faces) (sym v) h.1.1;
            },
        λ h.
            simp (and_iff, within_iff) (
              (
                subst (Between l.least_vertices l.most_vertices) x h.vertices_a_law,
                subst (Between l.least_faces l.most_faces) y h.faces_a_law,
              ),
              (
                subst (Between l.least_vertices l.most_vertices) u h.vertices_b_law,
                subst (Between l.least_faces l.most_faces) v h.faces_b_law,
              ),
            ),
      )

  module _ (room : ℕ) where
    made_scene : (n : ℕ) → (made_of a b far room ≡ Ok n) ↔ (Formed a b × Fits (denoted a b far) room n)
    unfolding counted_of scene_of
    made_scene n =
        both_iff a b far room (Ok n) (scene_plain n) (scene_counted t room (counts_fit a && counts_fit b) counts_fit_law n)

    made_refused : (q : Refusal) → (made_of a b far room ≡ Err (OfScene q)) ↔
        (Formed a b × (GroundsIn limits (denoted a b far) q ⊎ Lacks (denoted a b far) room q))
    unfolding counted_of scene_of
    made_refused q =
        both_iff a b far room (Err (OfScene q)) (refusal_plain q)
        (refused_counted t room (counts_fit a && counts_fit b) counts_fit_law q)

  module _ (out out' : List ℕ) (r : Result ℕ Fault) (g : made.Makes (made_of a b far (length out)) (scene_of a b far) out out' r) where
    makes : (n : ℕ) → r ≡ Ok n → Formed a b × Fits (denoted a b far) (length out) n
    makes n e = (made_scene (length out) n).0 (sym g.answer ∙ e)

    -- the scene stands in front
    module _ (n : ℕ) (e : r ≡ Ok n) where
      scene_is : scene_of a b far ≡ bytes_of (denoted a b far)
      unfolding scene_of
      scene_is = ap bytes_of (tables_kept t (makes n e).1.ok)

      long : n ≡ length (scene_of a b far)
      unfolding scene_of
      long = (makes n e).1.long ∙ sym (file_long t)

      stands : out' ≡ scene_of a b far ++ drop n out
      stands = g.left ∙ ap (λ (r : Result ℕ Fault). left_by r (scene_of a b far) out) e

      front : take n out' ≡ bytes_of (denoted a b far)
      front =
          (λ i. take (long i) (stands i)) ∙ take-append_seam (scene_of a b far) (drop n out) ∙ scene_is

      behind : drop n out' ≡ drop n out
      behind = (λ i. drop (long i) (stands i)) ∙ drop-append_seam (scene_of a b far) (drop n out)

    is_scene : IsScene a b far out out' r
    is_scene =
        record {
          accepted = λ n. (makes n, λ h. g.answer ∙ (made_scene (length out) n).1 h);
          bytes = front;
          tables = λ n e. ap tables_of (front n e) ∙ read_back t limits_fit (makes n e).1.ok;
          behind = behind;
          refused = λ q. (
            λ e. (made_refused (length out) q).0 (sym g.answer ∙ e),
            λ h. g.answer ∙ (made_refused (length out) q).1 h,
          );
          kept = λ f e. g.left ∙ ap (λ (r : Result ℕ Fault). left_by r (scene_of a b far) out) e;
        }

-- of the very relation that the contract of `scene_of` states
pub scene_exact : (κs a r e : _) → scene-of.Post κs a r e →
    IsScene a.0.now a.1.0.now a.1.1.0 a.1.1.1.0.now e.1.1.1.0.now r
scene_exact κs a r e x = is_scene _ _ _ _ _ r x
