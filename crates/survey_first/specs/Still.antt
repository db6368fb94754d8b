-- A solid none of whose edges pierces: every edge's mask is 0, so that no edge is odd. Assumes nothing.
use Rattle.std.specs.Prelude.{◌≡◌, refl, Bool, true, false, ◌&&◌, ltb, replicate}
use Rattle.std.proofs.Common.{sym, ◌∙◌, lt-ltb}
use Rattle.std.proofs.Math.Path.{ap, ap₂}
use mathlib.Core.List.{List, [], ◌∷◌, ◌++◌}
use Prim.Native.Nat.{ℕ, zero, suc, ◌+◌, ◌-◌, ◌<◌}
use Rattle.std.proofs.Math.Decide.{ℕ_discrete, dec_lt}
use native.Mathlib.Omega.{arith}
use Rattle.std.specs.Int.Count.{ones}
use Rattle.laws.specs.Bools.{◌⊕◌, law, all, ◌≐◌}
use Rattle.laws.specs.Lists.{replicate_at}
use Rattle.laws.specs.Mask.{mask_none, test_bit}
use Rattle.laws.specs.Runs.{up_to, only}
use Rattle.survey_edges.specs.Bits.{test_zero}
use Rattle.scene.specs.Edges.{joined}
use Rattle.scene.specs.declared.Solid.{Solid}
use Rattle.pierce_masks.specs.Faces.{is_odd}
use Rattle.pierce.specs.Formula.{pierced}
use Rattle.questions.specs.Hits.{PierceView, Hit, Own, face_hits, edge_hits, pair_hits, vertex_hits, solid_hits, edge_mask, enclosed_vertex}
use Rattle.survey_enclosed.specs.Ready.{Ready, across}
use Rattle.survey_enclosed.specs.Odds.{AreOdds}
use Rattle.survey_enclosed.specs.OddsProof.{joined_back}

-- ---- the parts of an empty run are empty

parts : (l m : List Hit) → [] ≡ l ++ m → ([] ≡ l) × ([] ≡ m)
parts [] m e = (refl, e)
parts (h ∷ l) m e = let z : ◌≡◌ {A = ℕ} 0 1 = cc in absurd (omega arith)

part : (g : ℕ → List Hit) (n i : ℕ) → i < n → [] ≡ up_to g n → [] ≡ g i
unfolding up_to
part g zero i b e = absurd (omega arith)
part g (suc n) i b e = let p = parts (up_to g n) (g n) e in by (ℕ_discrete i n) p.1 (λ h. part g n i h p.0)
  where
    by : Dec (i ≡ n) → [] ≡ g n → (i < n → [] ≡ g i) → [] ≡ g i
    by (yes d) here before = rw d here
    by (no d) here before = before (omega arith)

passed_none : (b : Bool) (h : Hit) → [] ≡ only b (h ∷ []) → b ≡ false
passed_none true h e = let z : ◌≡◌ {A = ℕ} 0 1 = cc in absurd (omega arith)
passed_none false h e = refl

module _ (s : PierceView) (k : Solid) (none : [] ≡ solid_hits s k) where
  -- ---- the mask of an edge

  edge_none : (u v : ℕ) → Own s k u → Own s k v → u < v → joined s.face k u v ≡ true → [] ≡ edge_hits s k u v
  unfolding solid_hits vertex_hits pair_hits
  edge_none u v hu hv l j =
      let i : ℕ = u - (k.vert0 + 1) in
      let m : ℕ = v - (k.vert0 + 1) in
      let eu : k.vert0 + 1 + i ≡ u = omega arith in
      let ev : k.vert0 + 1 + m ≡ v = omega arith in
      let here : [] ≡ only (ltb (k.vert0 + 1 + i) (k.vert0 + 1 + m) && joined s.face k (k.vert0 + 1 + i) (k.vert0 + 1 + m))
      (edge_hits s k (k.vert0 + 1 + i) (k.vert0 + 1 + m)) =
      part _ k.verts m (omega arith) (part _ k.verts i (omega arith) none) in
      here ∙ ap₂ (λ (x y : ℕ). only (ltb x y && joined s.face k x y) (edge_hits s k x y)) eu ev ∙ rw (lt-ltb u v l, j)

  mask_zero : (u v : ℕ) → [] ≡ edge_hits s k u v → edge_mask s k u v ≡ 0
  unfolding edge_hits face_hits edge_mask
  mask_zero u v e =
      mask_none _ k.others
      (λ i b. passed_none (pierced s.points s.row u v (s.face (k.other0 + 1 + i))) _ (part _ k.others i b e))

  even : (u v : ℕ) → Own s k u → Own s k v → u < v → joined s.face k u v ≡ true → is_odd (edge_mask s k u v) ≡ false
  unfolding is_odd ones
  even u v hu hv l j = ap is_odd (mask_zero u v (edge_none u v hu hv l j))

  -- ---- so the empty table tells the oddness of all edges

  pub odds_still : Ready s k → (n : ℕ) → AreOdds s k (replicate n 0)
  odds_still r n u m hu b j = ap (λ (w : ℕ). test_bit w m) (replicate_at n u 0) ∙ test_zero m ∙ by (dec_lt u v) (ℕ_discrete u v)
    where
      v : ℕ
      v = k.vert0 + 1 + m

      hv : Own s k v
      hv = (omega arith, omega arith)

      by : Dec (u < v) → Dec (u ≡ v) → false ≡ enclosed_vertex s k u ⊕ enclosed_vertex s k v
      by (yes l) d = sym (even u v hu hv l j) ∙ across s k r u v hu hv (omega arith)
      by (no l) (yes d) = sym
          (ap (λ (w : ℕ). enclosed_vertex s k u ⊕ enclosed_vertex s k w) (sym d) ∙ law (all λ a. a ⊕ a ≐ false) tt (enclosed_vertex s k u))
      by (no l) (no d) =
          sym (even v u hv hu (omega arith) (sym (joined_back s k u v) ∙ j)) ∙ across s k r v u hv hu (omega arith)
          ∙ law (all λ a. all λ b. a ⊕ b ≐ b ⊕ a) tt (enclosed_vertex s k v) (enclosed_vertex s k u)
