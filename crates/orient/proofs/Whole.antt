-- With a large enough whole number in place of the infinitesimal the determinant has the sign of the terms. Assumes nothing.
use Rattle.std.specs.Prelude.{◌≡◌, [], ◌∷◌, ℕ, suc, ℤ, pos, ◌+ℤ◌, ◌*ℤ◌}
use Rattle.laws.specs.Ring.{ring, env}
use Rattle.laws.specs.Ring.Expr.{var, ◌⊕◌, ◌⊗◌}
use Rattle.laws.specs.Sign.{sign}
use Rattle.laws.specs.Sign as signs
use Rattle.orient.specs.Terms.{c0, c1, c2, c3, orientation}
use Rattle.orient.specs.declared.Point.{Point}
use Rattle.orient.specs.Whole.{whole_det, by_powers, TermsUpto}

nested : (N p q r s : ℤ) → ((p *ℤ N +ℤ q) *ℤ N +ℤ r) *ℤ N +ℤ s ≡ N *ℤ N *ℤ N *ℤ p +ℤ N *ℤ N *ℤ q +ℤ N *ℤ r +ℤ s
nested N p q r s =
    ring (env (N ∷ p ∷ q ∷ r ∷ s ∷ [])) (((var 1 ⊗ var 0 ⊕ var 2) ⊗ var 0 ⊕ var 3) ⊗ var 0 ⊕ var 4)
    (var 0 ⊗ var 0 ⊗ var 0 ⊗ var 1 ⊕ var 0 ⊗ var 0 ⊗ var 2 ⊕ var 0 ⊗ var 3 ⊕ var 4) tt

-- above them, the determinant has the sign of the terms
pub whole_sign : (m : ℕ) (a b c d : Point) → TermsUpto m a b c d → sign (whole_det (pos (suc m)) a b c d) ≡ orientation a b c d
unfolding orientation
whole_sign m a b c d h =
    rw (← by_powers, ← nested) (signs.shifted m (c0 a b c d) (c1 a b c d) (c2 a b c d) (c3 a b c d) h.c1 h.c2 h.c3)
