-- Of a table of all edges of the solid the words say, at each two neighbours, whether one is enclosed and the other not. Assumes nothing.
use Rattle.std.specs.Prelude.{◌≡◌, Bool, ◌&&◌, List, [], ◌∷◌, eqb, ltb}
use Rattle.std.proofs.Math.Path.{refl, ap, ap₂}
use Rattle.std.proofs.Common.{sym, ◌∙◌}
use Rattle.std.proofs.Math.Bool.{true, false, ◌||◌}
use Prim.Native.Nat.{ℕ, zero, suc, ◌+◌, ◌-◌, ◌<◌}
use Rattle.std.proofs.Math.Decide.{ℕ_discrete, dec_lt}
use native.Mathlib.Omega.{arith}
use borrow.Author.Tests.{eq-eqb, ne_eqb, lt-ltb, ltb-true}
use Rattle.laws.specs.Bools.{◌⊕◌, law, all, ◌≐◌}
use Rattle.laws.specs.Mask.{mask_test, test_bit}
use Rattle.laws.specs.Range.{any_of}
use Rattle.laws.specs.Runs.{up_to, only}
use Rattle.scene.specs.Faces.{is_corner, has_both}
use Rattle.scene.specs.Edges.{joined}
use Rattle.scene.specs.declared.Solid.{Solid}
use Rattle.pierce_masks.specs.Faces.{is_odd}
use Rattle.questions.specs.Hits.{PierceView, Own, edge_mask, enclosed_vertex}
use Rattle.survey_edges.specs.Table.{Entry}
use Rattle.survey_edges.specs.Edges.{entry, vertex_edges, solid_edges}
use Rattle.survey_enclosed.specs.Ready.{Ready, across}
use Rattle.survey_enclosed.specs.Odds.{any_in, marks, Marked, AreOdds, any_append}

-- ---- whether one of a run of runs passes

or_true : (a : Bool) → (a || true) ≡ true
or_true true = refl
or_true false = refl

module _ {A : Type 0} (p : A → Bool) (g : ℕ → List A) where
  any_found : (i n : ℕ) → i < n → any_in p (g i) ≡ true → any_in p (up_to g n) ≡ true
  unfolding up_to
  any_found i zero h e = absurd (omega arith)
  any_found i (suc n) h e = any_append p (up_to g n) (g n) ∙ by (ℕ_discrete i n) (any_found i n)
    where
      by : Dec (i ≡ n) → (i < n → any_in p (g i) ≡ true → any_in p (up_to g n) ≡ true) → (any_in p (up_to g n) || any_in p (g n)) ≡ true
      by (yes d) before =
          ap (λ (b : Bool). any_in p (up_to g n) || b) (ap (λ (j : ℕ). any_in p (g j)) (sym d) ∙ e) ∙ or_true (any_in p (up_to g n))
      by (no d) before = ap (λ (b : Bool). b || any_in p (g n)) (before (omega arith) e)

  any_nowhere : (n : ℕ) → ((i : ℕ) → i < n → any_in p (g i) ≡ false) → any_in p (up_to g n) ≡ false
  unfolding up_to
  any_nowhere zero h = refl
  any_nowhere (suc n) h = any_append p (up_to g n) (g n) ∙ ap₂ ◌||◌ (any_nowhere n (λ i b. h i (omega arith))) (h n (omega arith))

one_or_none : {A : Type 0} (p : A → Bool) (x : A) (b : Bool) → (b ≡ true → p x ≡ false) → any_in p (only b (x ∷ [])) ≡ false
one_or_none p x true h = ap (λ (t : Bool). t || false) (h refl)
one_or_none p x false h = refl

and_left : (a b : Bool) → (a && b) ≡ true → a ≡ true
and_left true b e = refl
and_left false b e = e

-- ---- the edges of two vertices

unmatched : (x y u v : ℕ) → (x ≡ u → y ≡ v → ⊥) → (y ≡ u → x ≡ v → ⊥) → ((eqb x u && eqb y v) || (eqb y u && eqb x v)) ≡ false
unmatched x y u v a b = ap₂ ◌||◌ (off x u y v (ℕ_discrete x u) (ℕ_discrete y v) a) (off y u x v (ℕ_discrete y u) (ℕ_discrete x v) b)
  where
    off : (x u y v : ℕ) → Dec (x ≡ u) → Dec (y ≡ v) → (x ≡ u → y ≡ v → ⊥) → (eqb x u && eqb y v) ≡ false
    off x u y v (yes e) (yes f) h = absurd (h e f)
    off x u y v (yes e) (no f) h = rw (eq-eqb x u e) (ne_eqb y v f)
    off x u y v (no e) f h = rw (ne_eqb x u e)

and_none : (a b : Bool) → b ≡ false → (a && b) ≡ false
and_none true b e = e
and_none false b e = refl

module _ (s : PierceView) (k : Solid) where
  -- no edge passes
  none_of : (u v : ℕ) → ((x y : ℕ) → x < y → marks u v (entry s k x y) ≡ false) → any_in (marks u v) (solid_edges s k) ≡ false
  unfolding solid_edges vertex_edges
  none_of u v h =
      any_nowhere (marks u v) _ k.verts
      (λ i b. any_nowhere (marks u v) _ k.verts
      (λ m c. one_or_none (marks u v) (entry s k (k.vert0 + 1 + i) (k.vert0 + 1 + m))
      (ltb (k.vert0 + 1 + i) (k.vert0 + 1 + m) && joined s.face k (k.vert0 + 1 + i) (k.vert0 + 1 + m))
      (λ e. h (k.vert0 + 1 + i) (k.vert0 + 1 + m)
      (ltb-true (k.vert0 + 1 + i) (k.vert0 + 1 + m) (and_left (ltb (k.vert0 + 1 + i) (k.vert0 + 1 + m)) _ e)))))

  -- the edge of u and v passes
  found : (u v : ℕ) → Own s k u → Own s k v → u < v → joined s.face k u v ≡ true → is_odd (edge_mask s k u v) ≡ true →
      any_in (marks u v) (solid_edges s k) ≡ true
  unfolding solid_edges vertex_edges marks
  found u v hu hv l j o =
      let i : ℕ = u - (k.vert0 + 1) in
      let m : ℕ = v - (k.vert0 + 1) in
      let eu : k.vert0 + 1 + i ≡ u = omega arith in
      let ev : k.vert0 + 1 + m ≡ v = omega arith in
      any_found (marks u v) _ i k.verts (omega arith)
      (any_found (marks u v) _ m k.verts (omega arith)
      (ap₂ (λ (x y : ℕ). any_in (marks u v) (only (ltb x y && joined s.face k x y) (entry s k x y ∷ []))) eu ev
      ∙ rw (lt-ltb u v l, j, o, eq-eqb u u refl, eq-eqb v v refl)))

  edge_odd : (u v : ℕ) → Own s k u → Own s k v → u < v → joined s.face k u v ≡ true →
      any_in (marks u v) (solid_edges s k) ≡ is_odd (edge_mask s k u v)
  unfolding marks
  edge_odd u v hu hv l j = by (is_odd (edge_mask s k u v)) refl
    where
      off : is_odd (edge_mask s k u v) ≡ false → (x y : ℕ) → x < y → Dec (x ≡ u) → Dec (y ≡ v) → marks u v (entry s k x y) ≡ false
      off o x y b (yes e) (yes f) = cut (ap₂ (λ (x y : ℕ). is_odd (edge_mask s k x y)) e f ∙ o)
        where
          cut : is_odd (edge_mask s k x y) ≡ false → marks u v (entry s k x y) ≡ false
          cut z = rw z
      off o x y b (yes e) (no f) = and_none (is_odd (edge_mask s k x y)) _ (unmatched x y u v (λ p q. f q) (λ p q. omega arith))
      off o x y b (no e) f = and_none (is_odd (edge_mask s k x y)) _ (unmatched x y u v (λ p q. e p) (λ p q. omega arith))

      by : (o : Bool) → is_odd (edge_mask s k u v) ≡ o → any_in (marks u v) (solid_edges s k) ≡ o
      by true o = found u v hu hv l j o
      by false o = none_of u v (λ x y b. off o x y b (ℕ_discrete x u) (ℕ_discrete y v))

  pub joined_back : (u v : ℕ) → joined s.face k u v ≡ joined s.face k v u
  unfolding joined has_both
  joined_back u v i =
      any_of (λ f. law (all λ a. all λ b. a && b ≐ b && a) tt (is_corner u (s.face f)) (is_corner v (s.face f)) i) (k.face0 + 1)
      (k.face0 + 1 + k.faces)

  marks_back : (u v : ℕ) → ◌≡◌ {A = Entry → Bool} (marks u v) (marks v u)
  unfolding marks
  marks_back u v i e =
      is_odd e.mask
      && law (all λ a. all λ b. all λ c. all λ d. (a && b) || (c && d) ≐ (d && c) || (b && a)) tt (eqb e.low u) (eqb e.high v)
      (eqb e.high u) (eqb e.low v) i

  same_none : (u v x y : ℕ) → u ≡ v → x < y → marks u v (entry s k x y) ≡ false
  unfolding marks
  same_none u v x y e l = and_none (is_odd (edge_mask s k x y)) _ (unmatched x y u v (λ p q. omega arith) (λ p q. omega arith))

  pub odds_are : Ready s k → {odds : List ℕ} → Marked k.vert0 k.verts (solid_edges s k) odds → AreOdds s k odds
  odds_are r {odds} m u j hu h e =
      ap (λ (w : ℕ). test_bit w j) (m.at u hu)
      ∙ mask_test (λ i. any_in (marks u (k.vert0 + 1 + i)) (solid_edges s k)) 64 j (omega (arith, r.within.sound.vertices.0))
      ∙ by (dec_lt u v) (ℕ_discrete u v)
    where
      v : ℕ
      v = k.vert0 + 1 + j

      hv : Own s k v
      hv = (omega arith, omega arith)

      by : Dec (u < v) → Dec (u ≡ v) → any_in (marks u v) (solid_edges s k) ≡ enclosed_vertex s k u ⊕ enclosed_vertex s k v
      by (yes l) d = edge_odd u v hu hv l e ∙ across s k r u v hu hv (omega arith)
      by (no l) (yes d) =
          none_of u v (λ x y b. same_none u v x y d b)
          ∙ sym (ap (λ (w : ℕ). enclosed_vertex s k u ⊕ enclosed_vertex s k w) (sym d) ∙ law (all λ a. a ⊕ a ≐ false) tt
          (enclosed_vertex s k u))
      by (no l) (no d) =
          ap (λ (p : Entry → Bool). any_in p (solid_edges s k)) (marks_back u v)
          ∙ edge_odd v u hv hu (omega arith) (sym (joined_back u v) ∙ e)
          ∙ across s k r v u hv hu (omega arith)
          ∙ law (all λ a. all λ b. a ⊕ b ≐ b ⊕ a) tt (enclosed_vertex s k v) (enclosed_vertex s k u)
