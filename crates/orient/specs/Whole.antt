-- The shift with a whole number in place of the infinitesimal: where e is 1/N, the shifted row times N in its coordinates is a row of whole
-- numbers, and the determinant of four such rows is N³c0 + N²c1 + N·c2 + c3. Assumes nothing.
use Rattle.std.specs.Prelude.{◌≡◌, [], ◌∷◌, ℕ, ◌≤◌, ℤ, nat_abs, ◌+ℤ◌, ◌*ℤ◌}
use Rattle.laws.specs.Ring.{Expr, ring}
use Rattle.laws.specs.Ring.Expr.{var, ◌⊕◌, ◌⊗◌}
use Rattle.scene.specs.declared.Row.{Row}
use Rattle.orient.specs.Determinant.{Entries, det4}
use Rattle.orient.specs.Terms.{Numbered, numbered, terms, c0, c1, c2, c3}
use Rattle.orient.specs.Variables.{P, Q, S, U, points, det, t_of}
use Rattle.orient.specs.declared.Point.{Point}

module _ {R : Type 0} (◌plus◌ ◌times◌ : R → R → R) where
  infixl 6 ◌plus◌
  infixl 7 ◌times◌
  -- the row (N·x + k·i, N·y + k·i², N·z + k·i³, w)
  abbrev multiple : R → Numbered R → Entries R
  multiple N p =
      record {
        x = N times p.x plus p.k times p.i;
        y = N times p.y plus p.k times (p.i times p.i);
        z = N times p.z plus p.k times (p.i times p.i times p.i);
        w = p.w;
      }

abbrev pub whole_row : ℤ → Point → Row
whole_row N p = let r = multiple ◌+ℤ◌ ◌*ℤ◌ N (numbered p) in record { x = r.x; y = r.y; z = r.z; w = r.w }

unfoldable pub whole_det : ℤ → Point → Point → Point → Point → ℤ
whole_det N a b c d = det4 (whole_row N a) (whole_row N b) (whole_row N c) (whole_row N d)

-- the variable that comes after the four points
abbrev M : Expr
M = var 24

pub by_powers : (N : ℤ) (a b c d : Point) →
    N *ℤ N *ℤ N *ℤ c0 a b c d +ℤ N *ℤ N *ℤ c1 a b c d +ℤ N *ℤ c2 a b c d +ℤ c3 a b c d ≡ whole_det N a b c d
unfolding terms whole_det det4
by_powers N a b c d =
    let t = t_of P Q S U in
    ring (points a b c d (N ∷ [])) (M ⊗ M ⊗ M ⊗ t.e0 ⊕ M ⊗ M ⊗ t.e1 ⊕ M ⊗ t.e2 ⊕ t.e3)
    (det (multiple ◌⊕◌ ◌⊗◌ M P) (multiple ◌⊕◌ ◌⊗◌ M Q) (multiple ◌⊕◌ ◌⊗◌ M S) (multiple ◌⊕◌ ◌⊗◌ M U)) tt

-- no term but the first exceeds m
pub record TermsUpto (m : ℕ) (a b c d : Point) : Type 0 where
  pub c1 : nat_abs (c1 a b c d) ≤ m
  pub c2 : nat_abs (c2 a b c d) ≤ m
  pub c3 : nat_abs (c3 a b c d) ≤ m
