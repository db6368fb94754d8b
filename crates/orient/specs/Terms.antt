-- The sign of four points: the determinant of their shifted rows is c0 + c1·e + c2·e² + c3·e³, e an infinitesimal above zero, and the first
-- term that is not zero gives the sign. Assumes nothing.
use Rattle.std.specs.Prelude.{Bool, true, false, ℕ, zero, suc, ℤ, pos, negsuc, ◌+ℤ◌, ◌-ℤ◌, ◌*ℤ◌}
use Rattle.laws.specs.Sign.{Sign, sign, ◌or◌, minus, none, plus}
use Rattle.scene.specs.declared.Row.{Row}
use Rattle.orient.specs.Determinant.{Entries, determinant}
use Rattle.orient.specs.declared.Point.{Point}
use Rattle.orient.specs.declared.Terms.{Terms}

-- ---- the shift

-- a row, the factor k of its shift, and its number i
pub record Numbered (R : Type 0) : Type 0 where
  pub x : R
  pub y : R
  pub z : R
  pub w : R
  pub k : R
  pub i : R

-- what stands at 1, e, e² and e³; a higher power is dropped, and the determinant of shifted rows has none (`Whole.by_powers`)
pub record Powers (R : Type 0) : Type 0 where
  pub e0 : R
  pub e1 : R
  pub e2 : R
  pub e3 : R

-- a sum or a difference goes power by power
abbrev by_power : {R : Type 0} → (R → R → R) → Powers R → Powers R → Powers R
by_power f p q = record { e0 = f p.e0 q.e0; e1 = f p.e1 q.e1; e2 = f p.e2 q.e2; e3 = f p.e3 q.e3 }

module _ {R : Type 0} (nought : R) (◌add◌ ◌sub◌ ◌times◌ : R → R → R) where
  infixl 6 ◌add◌
  infixl 7 ◌times◌
  abbrev product : Powers R → Powers R → Powers R
  product p q =
      record {
        e0 = p.e0 times q.e0;
        e1 = p.e0 times q.e1 add p.e1 times q.e0;
        e2 = p.e0 times q.e2 add p.e1 times q.e1 add p.e2 times q.e0;
        e3 = p.e0 times q.e3 add p.e1 times q.e2 add p.e2 times q.e1 add p.e3 times q.e0;
      }

  -- x + e·s
  abbrev moved : (x s : R) → Powers R
  moved x s = record { e0 = x; e1 = s; e2 = nought; e3 = nought }

  -- the row (x + e·k·i, y + e·k·i², z + e·k·i³, w)
  abbrev shifted : Numbered R → Entries (Powers R)
  shifted p =
      record {
        x = moved p.x (p.k times p.i);
        y = moved p.y (p.k times (p.i times p.i));
        z = moved p.z (p.k times (p.i times p.i times p.i));
        w = moved p.w nought;
      }

  -- the determinant of four shifted rows
  abbrev pub powers : Numbered R → Numbered R → Numbered R → Numbered R → Powers R
  powers a b c d = determinant (by_power ◌add◌) (by_power ◌sub◌) product (shifted a) (shifted b) (shifted c) (shifted d)

-- ---- the terms

-- the one factor of the shift: the point's weight, or 1 where that is 0
abbrev pub factor : ℤ → ℤ
factor (pos zero) = pos 1
factor (pos (suc n)) = pos (suc n)
factor (negsuc n) = negsuc n

abbrev pub numbered : Point → Numbered ℤ
numbered p = record { x = p.x; y = p.y; z = p.z; w = p.w; k = factor p.w; i = p.n }

unfoldable pub terms : Point → Point → Point → Point → Powers ℤ
terms a b c d = powers (pos 0) ◌+ℤ◌ ◌-ℤ◌ ◌*ℤ◌ (numbered a) (numbered b) (numbered c) (numbered d)

abbrev pub c0 : Point → Point → Point → Point → ℤ
c0 a b c d = (terms a b c d).e0

abbrev pub c1 : Point → Point → Point → Point → ℤ
c1 a b c d = (terms a b c d).e1

abbrev pub c2 : Point → Point → Point → Point → ℤ
c2 a b c d = (terms a b c d).e2

abbrev pub c3 : Point → Point → Point → Point → ℤ
c3 a b c d = (terms a b c d).e3

abbrev pub terms_of : Point → Point → Point → Point → Terms
terms_of a b c d = record { c0 = c0 a b c d; c1 = c1 a b c d; c2 = c2 a b c d; c3 = c3 a b c d }

-- ---- the sign

-- that of the first term that is not zero, after c0, and from c0 on
abbrev pub tied : Point → Point → Point → Point → Sign
tied a b c d = sign (c1 a b c d) or sign (c2 a b c d) or sign (c3 a b c d)

unfoldable pub orientation : Point → Point → Point → Point → Sign
orientation a b c d = sign (c0 a b c d) or tied a b c d

abbrev pub is_plus : Sign → Bool
is_plus minus = false
is_plus none = false
is_plus plus = true

abbrev pub positive : Point → Point → Point → Point → Bool
positive a b c d = is_plus (orientation a b c d)

-- ---- by the numbers of a scene's points

abbrev pub point_at : (ℕ → Row) → ℕ → Point
point_at row i = let r = row i in record { x = r.x; y = r.y; z = r.z; w = r.w; n = pos i }

abbrev pub c0_at : (ℕ → Row) → (a b c d : ℕ) → ℤ
c0_at row a b c d = c0 (point_at row a) (point_at row b) (point_at row c) (point_at row d)

abbrev pub c1_at : (ℕ → Row) → (a b c d : ℕ) → ℤ
c1_at row a b c d = c1 (point_at row a) (point_at row b) (point_at row c) (point_at row d)

unfoldable pub positive_at : (ℕ → Row) → (a b c d : ℕ) → Bool
positive_at row a b c d = positive (point_at row a) (point_at row b) (point_at row c) (point_at row d)

unfoldable pub terms_at : (ℕ → Row) → (a b c d : ℕ) → Terms
terms_at row a b c d = terms_of (point_at row a) (point_at row b) (point_at row c) (point_at row d)
