-- Rows of nonzero weight multiplied by positive whole numbers: the shift scales with the weight, so each of the four terms takes the same
-- positive factor, and no sign changes, ties included. Assumes nothing.
use Rattle.std.specs.Prelude.{◌≡◌, ◌≢◌, [], ◌∷◌, ℕ, zero, suc, ◌+◌, ◌*◌, ◌≤◌, ℤ, pos, negsuc}
use Rattle.std.proofs.Common.{sym, ◌∙◌, mul-le-mul, arith}
use Rattle.std.proofs.Math.Path.{ap}
use Rattle.std.proofs.Math.IntN.{◌+ℤ◌, ◌-ℤ◌, ◌*ℤ◌, *ℤ-zero, ℤ_discrete}
use Rattle.laws.specs.Integers.{1_*ℤ}
use Rattle.laws.specs.Ring.{Expr, ring}
use Rattle.laws.specs.Ring.Expr.{var, ◌⊗◌}
use Rattle.laws.specs.Sign.{sign, ◌or◌}
use Rattle.scene.specs.declared.Row.{Row}
use Rattle.orient.specs.Alternating.{nonzero_mul}
use Rattle.orient.specs.Laws.{factor_weight}
use Rattle.orient.specs.Terms.{Powers, Numbered, powers, factor, numbered, terms, orientation, is_plus, point_at, positive_at}
use Rattle.orient.specs.Variables.{P, Q, S, U, points, t_of}
use Rattle.theorem_lecture.specs.Lecture.{Factor, ScaledRow}

-- ---- a point with its shift

abbrev multiple : {R : Type 0} → (R → R → R) → R → Numbered R → Numbered R
multiple product k p =
    record { x = product k p.x; y = product k p.y; z = product k p.z; w = product k p.w; k = product k p.k; i = p.i }

factor_times : (k : ℕ) (w : ℤ) → Factor k w → factor (pos k *ℤ w) ≡ pos k *ℤ factor w
factor_times k w h = by (ℤ_discrete w (pos 0))
  where
    positive : (k : ℕ) → 1 ≤ k → pos k ≢ pos 0
    positive zero l e = absurd (omega arith)
    positive (suc k) l e = let z : ◌≡◌ {A = ℕ} (suc k) 0 = cc in omega arith

    by : Dec (w ≡ pos 0) → factor (pos k *ℤ w) ≡ pos k *ℤ factor w
    by (yes e) = rw (h.weightless e) (ap factor (1_*ℤ w) ∙ sym (1_*ℤ (factor w)))
    by (no d) =
        factor_weight (pos k *ℤ w) (nonzero_mul (pos k) w (positive k h.positive) d)
        ∙ ap (λ (z : ℤ). pos k *ℤ z) (sym (factor_weight w d))

-- ---- the terms

module _ (row : ℕ → Row) (a b c d i j k l : ℕ) where
  abbrev env4 : ℕ → ℤ
  env4 = points (point_at row a) (point_at row b) (point_at row c) (point_at row d) (pos i ∷ pos j ∷ pos k ∷ pos l ∷ [])

  abbrev t : Powers Expr
  t = t_of P Q S U

  abbrev t' : Powers Expr
  t' = t_of (multiple ◌⊗◌ (var 24) P) (multiple ◌⊗◌ (var 25) Q) (multiple ◌⊗◌ (var 26) S) (multiple ◌⊗◌ (var 27) U)

  abbrev F : Expr
  F = var 24 ⊗ var 25 ⊗ var 26 ⊗ var 27

  abbrev multiples : Powers ℤ
  multiples =
      powers (pos 0) ◌+ℤ◌ ◌-ℤ◌ ◌*ℤ◌ (multiple ◌*ℤ◌ (pos i) (numbered (point_at row a))) (multiple ◌*ℤ◌ (pos j) (numbered (point_at row b)))
      (multiple ◌*ℤ◌ (pos k) (numbered (point_at row c)))
      (multiple ◌*ℤ◌ (pos l) (numbered (point_at row d)))

  abbrev T : Powers ℤ
  T = terms (point_at row a) (point_at row b) (point_at row c) (point_at row d)

  abbrev all_of : ℤ
  all_of = pos i *ℤ pos j *ℤ pos k *ℤ pos l

  e0_times : multiples.e0 ≡ all_of *ℤ T.e0
  unfolding terms
  e0_times = ring env4 t'.e0 (F ⊗ t.e0) tt

  e1_times : multiples.e1 ≡ all_of *ℤ T.e1
  unfolding terms
  e1_times = ring env4 t'.e1 (F ⊗ t.e1) tt

  e2_times : multiples.e2 ≡ all_of *ℤ T.e2
  unfolding terms
  e2_times = ring env4 t'.e2 (F ⊗ t.e2) tt

  e3_times : multiples.e3 ≡ all_of *ℤ T.e3
  unfolding terms
  e3_times = ring env4 t'.e3 (F ⊗ t.e3) tt

-- ---- the sign

sign_times : (k : ℕ) (z : ℤ) → 1 ≤ k → sign (pos k *ℤ z) ≡ sign z
sign_times zero z h = absurd (omega arith)
sign_times (suc k) (pos zero) h = ap sign (*ℤ-zero (pos (suc k)))
sign_times (suc k) (pos (suc n)) h = rw (product k n)
  where
    product : (a b : ℕ) → suc a * suc b ≡ suc (a * suc b + b)
    product a b = omega arith
sign_times (suc k) (negsuc n) h = rw (product k n)
  where
    product : (a b : ℕ) → suc a * suc b ≡ suc (a * suc b + b)
    product a b = omega arith

module _ (row row' : ℕ → Row) (a b c d i j k l : ℕ)
    (ha : ScaledRow i (row a) (row' a)) (hb : ScaledRow j (row b) (row' b)) (hc : ScaledRow k (row c) (row' c))
    (hd : ScaledRow l (row d) (row' d)) where
  scaled_point : (p m : ℕ) → ScaledRow m (row p) (row' p) → numbered (point_at row' p) ≡ multiple ◌*ℤ◌ (pos m) (numbered (point_at row p))
  scaled_point p m h =
      ap (λ (r : Row). numbered (record { x = r.x; y = r.y; z = r.z; w = r.w; n = pos p })) h.1
      ∙ (λ i.
      record {
        x = pos m *ℤ (row p).x;
        y = pos m *ℤ (row p).y;
        z = pos m *ℤ (row p).z;
        w = pos m *ℤ (row p).w;
        k = factor_times m (row p).w h.0 i;
        i = pos p;
      })

  terms_scaled : terms (point_at row' a) (point_at row' b) (point_at row' c) (point_at row' d) ≡ multiples row a b c d i j k l
  unfolding terms
  terms_scaled =
      λ n. powers (pos 0) ◌+ℤ◌ ◌-ℤ◌ ◌*ℤ◌ (scaled_point a i ha n) (scaled_point b j hb n) (scaled_point c k hc n) (scaled_point d l hd n)

  some : 1 ≤ i * j * k * l
  some = mul-le-mul (mul-le-mul (mul-le-mul ha.0.positive hb.0.positive) hc.0.positive) hd.0.positive

  pub sign_scaled : positive_at row' a b c d ≡ positive_at row a b c d
  unfolding positive_at orientation
  sign_scaled =
      let each : (z z' : ℤ) → z' ≡ all_of row a b c d i j k l *ℤ z → sign z' ≡ sign z = λ z z' e. ap sign e
      ∙ sign_times (i * j * k * l) z some in
      let s0 = each (T row a b c d i j k l).e0 _ (ap (λ (p : Powers ℤ). p.e0) terms_scaled ∙ e0_times row a b c d i j k l) in
      let s1 = each (T row a b c d i j k l).e1 _ (ap (λ (p : Powers ℤ). p.e1) terms_scaled ∙ e1_times row a b c d i j k l) in
      let s2 = each (T row a b c d i j k l).e2 _ (ap (λ (p : Powers ℤ). p.e2) terms_scaled ∙ e2_times row a b c d i j k l) in
      let s3 = each (T row a b c d i j k l).e3 _ (ap (λ (p : Powers ℤ). p.e3) terms_scaled ∙ e3_times row a b c d i j k l) in
      λ n. is_plus (s0 n or s1 n or s2 n or s3 n)
