-- The word of the enclosed vertices: its ones are their number, its lowest one is the lowest of them. Assumes nothing.
use Rattle.std.specs.Prelude.{◌≡◌, refl, Bool, true, false, cond, eqb}
use Rattle.std.proofs.Math.Path.{sym, ap}
use Rattle.std.proofs.Common.{◌∙◌, arith, eq-eqb, ne_eqb}
use Prim.Native.Nat.{ℕ, zero, suc, ◌+◌, ◌-◌, ◌≤◌, ◌<◌}
use Rattle.std.proofs.Math.Decide.{ℕ_discrete}
use Rattle.std.specs.Int.Count.{ones, count_trailing_zeros}
use Rattle.laws.specs.Lists.{count_run}
use Rattle.laws.specs.Mask.{mask_ones, mask_test, test_bit}
use Rattle.laws.specs.Range.{fold, over, lowest_of}
use Rattle.laws.specs.Walk.{mask_first}
use Rattle.survey_edges.specs.Bits.{test_zero}
use Rattle.scene.specs.declared.Solid.{Solid}
use Rattle.questions.specs.Hits.{PierceView, enclosed_vertex, enclosed_count, lowest_enclosed}
use Rattle.survey_enclosed.specs.Walk.{inside_word}

-- the lowest vertex of the word w, of the n points above low; the number behind the last where there is none
abbrev pub lowest_of_word : (w low n : ℕ) → ℕ
lowest_of_word w low n = cond (eqb w 0) (low + 1 + n) (low + 1 + count_trailing_zeros 64 w)

lowest_none : (p : ℕ → Bool) (z a n : ℕ) → ((j : ℕ) → a ≤ j → j < a + n → p j ≡ false) → fold (λ k rest. cond (p k) k rest) z a n ≡ z
lowest_none p z a zero h = refl
lowest_none p z a (suc n) h = rw (h a (omega arith) (omega arith)) (lowest_none p z (suc a) n (λ j b c. h j (omega arith) (omega arith)))

lowest_at : (p : ℕ → Bool) (z a n d : ℕ) → d < n → p (a + d) ≡ true → ((j : ℕ) → a ≤ j → j < a + d → p j ≡ false) →
    fold (λ k rest. cond (p k) k rest) z a n ≡ a + d
lowest_at p z a zero d l t h = absurd (omega arith)
lowest_at p z a (suc n) zero l t h =
    let e : a + 0 ≡ a = omega arith in
    rw (sym (ap p e) ∙ t) (sym e)
lowest_at p z a (suc n) (suc d) l t h =
    let e : a + suc d ≡ suc a + d = omega arith in
    rw (h a (omega arith) (omega arith))
    (lowest_at p z (suc a) n d (omega arith) (ap p (sym e) ∙ t) (λ j b c. h j (omega arith) (omega arith)) ∙ sym e)

module _ (s : PierceView) (k : Solid) {w : ℕ} (e : w ≡ inside_word s k) where
  pub inside_ones : ones w ≡ enclosed_count s k
  unfolding inside_word enclosed_count
  inside_ones =
      ap ones e ∙ mask_ones (enclosed_vertex s k) (λ u. u) (k.vert0 + 1) k.verts
      ∙ sym (count_run (λ u. u) (enclosed_vertex s k) (enclosed_vertex s k) (k.vert0 + 1) (k.vert0 + 1 + k.verts) k.verts (omega arith)
      (λ u. refl))

  pub inside_lowest : k.verts ≤ 64 → lowest_of_word w k.vert0 k.verts ≡ lowest_enclosed s k
  unfolding inside_word lowest_enclosed lowest_of over
  inside_lowest few = by (ℕ_discrete w 0)
    where
      high : ℕ
      high = k.vert0 + 1 + k.verts

      off : w ≡ 0 → (j : ℕ) → k.vert0 + 1 ≤ j → j < k.vert0 + 1 + (high - (k.vert0 + 1)) → enclosed_vertex s k j ≡ false
      off z j a b =
          let m : ℕ = j - (k.vert0 + 1) in
          let at : k.vert0 + 1 + m ≡ j = omega arith in
          sym (ap (enclosed_vertex s k) at) ∙ sym (mask_test (λ m. enclosed_vertex s k (k.vert0 + 1 + m)) k.verts m (omega arith))
          ∙ ap (λ (x : ℕ). test_bit x m) (sym e ∙ z) ∙ test_zero m

      place : (j : ℕ) → k.vert0 + 1 ≤ j → k.vert0 + 1 + (j - (k.vert0 + 1)) ≡ j
      place j a = omega arith

      by : Dec (w ≡ 0) → lowest_of_word w k.vert0 k.verts ≡ fold (λ u rest. cond (enclosed_vertex s k u) u rest) high (k.vert0 + 1)
          (high - (k.vert0 + 1))
      by (yes z) =
          ap (λ (b : Bool). cond b high (k.vert0 + 1 + count_trailing_zeros 64 w)) (eq-eqb w 0 z)
          ∙ sym (lowest_none (enclosed_vertex s k) high (k.vert0 + 1) (high - (k.vert0 + 1)) (off z))
      by (no d) =
          let f = mask_first (λ m. enclosed_vertex s k (k.vert0 + 1 + m)) 64 k.verts few e (omega arith) in
          ap (λ (b : Bool). cond b high (k.vert0 + 1 + count_trailing_zeros 64 w)) (ne_eqb w 0 d)
          ∙ sym (lowest_at (enclosed_vertex s k) high (k.vert0 + 1) (high - (k.vert0 + 1)) (count_trailing_zeros 64 w) (omega (arith, f.below))
          f.passes
          (λ j a b. sym (ap (enclosed_vertex s k) (place j a)) ∙ f.none (j - (k.vert0 + 1)) (omega arith) (omega arith)))
