-- A mask asked of two views, with the numbers of each: where the numbers name points and a solid in both or in neither, and the points are
-- outside the solid in both or in neither, it is refused alike; and where the masks are the same, it is answered alike. Assumes nothing.
use Rattle.std.specs.Prelude.{◌≡◌, refl, ◌≢◌, Bool, true, false, not, cond, ◌&&◌, ℕ, ◌≤◌, eqb, leb, Ok}
use Rattle.std.proofs.Common.{sym, subst, ◌∙◌, arith, eq-eqb, ne_eqb}
use Rattle.std.proofs.Math.Path.{ap}
use Rattle.std.proofs.Math.Decide.{ℕ_discrete}
use Rattle.std.specs.Int.Count.{ones}
use Rattle.laws.specs.Decides.{and_iff}
use Rattle.scene.specs.Limits.{within}
use Rattle.scene.specs.View.{View, points}
use Rattle.scene.specs.declared.Refusal.{Refusal}
use Rattle.scene.specs.declared.Refusal.TheVariants.{NoSuchNumber, NotDistinct}
use Rattle.judge.specs.Judge.{refuse_unless}
use Rattle.judge.specs.Laws.{rule_ok}
use Rattle.judge.specs.Tests.{within_iff}
use Rattle.judge.specs.Judge.{Judged}
use Rattle.orient.specs.Signs.{Upto}
use Rattle.questions.specs.Answers.{is_point, is_solid, edge_and_solid, ends_off_solid, differs, mask_fault, mask_in, refused, faces_are, masked_in}
use Rattle.questions.specs.Answers.{other_solid}
use Rattle.questions.specs.Asked.{Outside, mask_outside}
use Rattle.theorem_lecture.specs.Scenes.{answered_same}

-- a test passes in both or in neither; and where it does, what comes after is the same
rule_same : (r : Refusal) {b b' : Bool} {j j' : Judged} → b' ≡ b → (b ≡ true → j' ≡ j) → refuse_unless b' r j' ≡ refuse_unless b r j
unfolding refuse_unless
rule_same r {b} {j} {j'} e h = ap (λ (c : Bool). refuse_unless c r j') e ∙ by b h
  where
    by : (b : Bool) → (b ≡ true → j' ≡ j) → refuse_unless b r j' ≡ refuse_unless b r j
    by true h = h refl
    by false h = refl

-- two numbers differ in both
pub other_same : (i j i' j' : ℕ) → (i ≡ j → i' ≡ j') → (i ≢ j → i' ≢ j') → differs i' j' ≡ differs i j
other_same i j i' j' same apart = ap not (by (ℕ_discrete i j))
  where
    by : Dec (i ≡ j) → eqb i' j' ≡ eqb i j
    by (yes e) = eq-eqb i' j' (same e) ∙ sym (eq-eqb i j e)
    by (no d) = ne_eqb i' j' (apart d) ∙ sym (ne_eqb i j d)

-- what is so of A's number and of B's is so of every solid's
pub either_number : (X : ℕ → Type 0) → X 1 → X 2 → (k : ℕ) → is_solid k ≡ true → X k
unfolding is_solid
either_number X a b k is = by (ℕ_discrete k 1) ((within_iff 1 2 k).0 is)
  where
    by : Dec (k ≡ 1) → (1 ≤ k) × (k ≤ 2) → X k
    by (yes e) h = subst X (sym e) a
    by (no d) h = let e : 2 ≡ k = omega arith in subst X e b

-- the solid that a vertex may be enclosed by is one
pub other_is : (v : View) (i : ℕ) → is_solid (other_solid v i) ≡ true
unfolding other_solid is_solid within
other_is v i = by (leb i v.verts_a)
  where
    by : (b : Bool) → is_solid (cond b 2 1) ≡ true
    by true = refl
    by false = refl

module _ (v v' : View) (u w k u' w' k' : ℕ)
    (pu : is_point v' u' ≡ is_point v u) (pw : is_point v' w' ≡ is_point v w) (pk : is_solid k' ≡ is_solid k)
    (outs : Upto (points v) u → Upto (points v) w → is_solid k ≡ true → ends_off_solid v' u' w' k' ≡ ends_off_solid v u w k)
    (mask : is_solid k ≡ true → Outside v u w k → mask_in v' u' w' k' ≡ mask_in v u w k) where
  point : (i : ℕ) → is_point v i ≡ true → Upto (points v) i
  unfolding is_point
  point i e = (within_iff 1 (points v) i).0 e

  fault_same : mask_fault v' u' w' k' ≡ mask_fault v u w k
  unfolding mask_fault edge_and_solid
  fault_same =
      rule_same NoSuchNumber (λ i. pu i && (pw i && pk i))
      (λ e.
      let a = (and_iff (is_point v u) (is_point v w && is_solid k)).0 e in
      let b = (and_iff (is_point v w) (is_solid k)).0 a.1 in
      ap (λ (c : Bool). refuse_unless c NotDistinct (Ok tt)) (outs (point u a.0) (point w b.0) b.1))

  is_solid_law : mask_fault v u w k ≡ Ok tt → is_solid k ≡ true
  unfolding mask_fault edge_and_solid
  is_solid_law e =
      let points = rule_ok (edge_and_solid v u w k) NoSuchNumber (refuse_unless (ends_off_solid v u w k) NotDistinct (Ok tt)) e in
      ((and_iff (is_point v w) (is_solid k)).0 ((and_iff (is_point v u) (is_point v w && is_solid k)).0 points).1).1

  pub masked_same : masked_in v' u' w' k' ≡ masked_in v u w k
  unfolding masked_in
  masked_same =
      answered_same refused fault_same (λ e. ap (λ (m : ℕ). faces_are m (ones m)) (mask (is_solid_law e) (mask_outside v u w k e)))
