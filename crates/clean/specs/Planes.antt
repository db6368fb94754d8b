-- The plane through three rows: its four coefficients, each a determinant of three columns, such that plane · t is the determinant of the
-- three rows and t. Assumes nothing.
use Rattle.std.specs.Prelude.{◌≡◌, [], ◌∷◌, ℤ, ◌+ℤ◌, ◌-ℤ◌, ◌*ℤ◌}
use Rattle.laws.specs.Ring.{ring}
use Rattle.laws.specs.Ring.Expr.{◌⊕◌, ◌⊖◌, ◌⊗◌}
use Rattle.scene.specs.declared.Row.{Row}
use Rattle.orient.specs.Determinant.{Entries, entries, det4}
use Rattle.orient.specs.Variables.{row, rows, det}
use Rattle.clean.specs.declared.planes.Three.{Three}

-- three entries of a row
pub record Triple (R : Type 0) : Type 0 where
  pub x : R
  pub y : R
  pub z : R

-- the entries but one, in the order that gives the coefficient of that one its sign
module _ {R : Type 0} where
  abbrev but_x_law : Entries R → Triple R
  but_x_law r = record { x = r.z; y = r.y; z = r.w }

  abbrev but_y_law : Entries R → Triple R
  but_y_law r = record { x = r.x; y = r.z; z = r.w }

  abbrev but_z_law : Entries R → Triple R
  but_z_law r = record { x = r.y; y = r.x; z = r.w }

  abbrev but_w_law : Entries R → Triple R
  but_w_law r = record { x = r.x; y = r.y; z = r.z }

module _ {R : Type 0} (◌plus◌ ◌minus◌ ◌times◌ : R → R → R) where
  infixl 6 ◌plus◌ ◌minus◌
  infixl 7 ◌times◌
  -- the determinant of three triples
  abbrev volume_of_law : Triple R → Triple R → Triple R → R
  volume_of_law a b c =
      a.x times (b.y times c.z minus b.z times c.y) minus a.y times (b.x times c.z minus b.z times c.x)
      plus a.z times (b.x times c.y minus b.y times c.x)

  abbrev plane_of_law : Entries R → Entries R → Entries R → Entries R
  plane_of_law a b c =
      record {
        x = volume_of_law (but_x_law a) (but_x_law b) (but_x_law c);
        y = volume_of_law (but_y_law a) (but_y_law b) (but_y_law c);
        z = volume_of_law (but_z_law a) (but_z_law b) (but_z_law c);
        w = volume_of_law (but_w_law a) (but_w_law b) (but_w_law c);
      }

  abbrev dot_of_law : Entries R → Entries R → R
  dot_of_law p t = p.x times t.x plus p.y times t.y plus p.z times t.z plus p.w times t.w

-- ---- of whole numbers

abbrev triple : Three → Triple ℤ
triple a = record { x = a.x; y = a.y; z = a.z }

abbrev pub but_x : Row → Three
but_x r = record { x = r.z; y = r.y; z = r.w }

abbrev pub but_y : Row → Three
but_y r = record { x = r.x; y = r.z; z = r.w }

abbrev pub but_z : Row → Three
but_z r = record { x = r.y; y = r.x; z = r.w }

abbrev pub but_w : Row → Three
but_w r = record { x = r.x; y = r.y; z = r.z }

unfoldable pub volume_of : Three → Three → Three → ℤ
volume_of a b c = volume_of_law ◌+ℤ◌ ◌-ℤ◌ ◌*ℤ◌ (triple a) (triple b) (triple c)

abbrev pub plane_of : Row → Row → Row → Row
plane_of a b c =
    record {
      x = volume_of (but_x a) (but_x b) (but_x c);
      y = volume_of (but_y a) (but_y b) (but_y c);
      z = volume_of (but_z a) (but_z b) (but_z c);
      w = volume_of (but_w a) (but_w b) (but_w c);
    }

unfoldable pub dot_of : Row → Row → ℤ
dot_of p t = dot_of_law ◌+ℤ◌ ◌-ℤ◌ ◌*ℤ◌ (entries p) (entries t)

pub plane_det : (a b c t : Row) → dot_of (plane_of a b c) t ≡ det4 a b c t
unfolding dot_of volume_of det4
plane_det a b c t =
    ring (rows (a ∷ b ∷ c ∷ t ∷ [])) (dot_of_law ◌⊕◌ ◌⊖◌ ◌⊗◌ (plane_of_law ◌⊕◌ ◌⊖◌ ◌⊗◌ (row 0) (row 1) (row 2)) (row 3))
    (det (row 0) (row 1) (row 2) (row 3)) tt
