-- The signs of a scene's points obey the rules, since the shift is real (`specs/Rules.antt`). Assumes nothing.
use Rattle.std.specs.Prelude.{◌≡◌}
use Rattle.std.proofs.Common.{sym, ◌∙◌, ⊎_elim, eq-or-lt_of_le, arith}
use Rattle.std.proofs.Math.Path.{ap}
use Prim.Native.Nat.{ℕ, zero, suc, ◌≤◌, ◌<◌}
use Rattle.std.proofs.Math.Nat.{le_trans}
use Rattle.laws.specs.Sign.{sign}
use Rattle.scene.specs.declared.Row.{Row}
use Rattle.orient.specs.Signs.{Four, Upto, Rules, rules_same}
use Rattle.orient.specs.Terms.{is_plus, orientation, point_at, positive_at}
use Rattle.orient.specs.Sizes.{Within, AreWithin}
use Rattle.orient.proofs.Sizes.{c1_size, c2_size, c3_size}
use Rattle.orient.specs.Laws.{swap12, swap23, swap34, three_terms}
use Rattle.orient.specs.Whole.{whole_det, TermsUpto}
use Rattle.orient.proofs.Whole.{whole_sign}
use Rattle.orient.specs.Alternating.{alternating}
use Rattle.orient.specs.Weighted.{Weighted}
use Rattle.orient.proofs.Weighted.{oriented}
use Rattle.orient.specs.Rules.{whole_at, total, size, kept, enough, Real}

below_total : (f : ℕ → ℕ) (n i : ℕ) → Upto n i → f i ≤ total f n
unfolding total
below_total f zero i h = absurd (omega arith)
below_total f (suc n) i h =
    ⊎_elim (λ (e : i ≡ suc n). omega (arith, ap f e)) (λ (l : i < suc n). omega (arith, below_total f n i (omega arith)))
    (eq-or-lt_of_le h.1)

module _ (n : ℕ) (row : ℕ → Row) where
  within : (i : ℕ) → Upto n i → Within (kept n row) (point_at row i)
  within i h = let t = below_total (size n row) n i h in omega arith

  terms_upto : (m a b c d : ℕ) → enough n row ≤ m → Four (Upto n) a b c d →
      TermsUpto m (point_at row a) (point_at row b) (point_at row c) (point_at row d)
  unfolding enough
  terms_upto m a b c d h f =
      let v : AreWithin (kept n row) (point_at row a) (point_at row b) (point_at row c) (point_at row d) =
      (within a f.a_in, within b f.b_in, within c f.c_in, within d f.d_in) in
      record {
        c1 = le_trans (c1_size (kept n row) (omega arith) v).size (omega arith);
        c2 = le_trans (c2_size (kept n row) (omega arith) v).size (omega arith);
        c3 = le_trans (c3_size (kept n row) (omega arith) v).size (omega arith);
      }

module _ (n : ℕ) (row : ℕ → Row) (weighted : Weighted n row) where
  sign_at : (N : ℕ) → enough n row < N → (a b c d : ℕ) → Four (Upto n) a b c d →
      sign (whole_at N row a b c d) ≡ orientation (point_at row a) (point_at row b) (point_at row c) (point_at row d)
  sign_at zero h a b c d f = absurd (omega arith)
  sign_at (suc m) h a b c d f = whole_sign m _ _ _ _ (terms_upto n row m a b c d (omega arith) f)

  pub shift_is_real : (N : ℕ) → enough n row < N → Real n row N
  unfolding positive_at
  shift_is_real N h =
      record {
        nonzero = λ a b c d f e. oriented n row weighted a b c d f (sym (sign_at N h a b c d f) ∙ ap sign e);
        signs = λ a b c d f. ap is_plus (sym (sign_at N h a b c d f));
      }

  pub rules : Rules (Upto n) (positive_at row)
  unfolding whole_det
  rules =
      let N = suc (enough n row) in
      let real = shift_is_real N (omega arith) in
      rules_same (Upto n) (λ a b c d. is_plus (sign (whole_at N row a b c d))) (positive_at row) real.signs
      (alternating (Upto n) (whole_at N row)
      (record {
        nonzero = real.nonzero;
        swap1 = λ a b c d. swap12 _ _ _ _;
        swap2 = λ a b c d. swap23 _ _ _ _;
        swap3 = λ a b c d. swap34 _ _ _ _;
        three = λ u v h p q r. three_terms _ _ _ _ _ _;
      }))
