-- The determinant as the code forms it, from the 2×2 minors of the first two rows and of the last two: the same as along its first row.
-- Assumes nothing.
use Rattle.std.specs.Prelude.{◌≡◌, [], ◌∷◌, ℤ, pos, ◌+ℤ◌, ◌-ℤ◌, ◌*ℤ◌}
use Rattle.laws.specs.Ring.{ring}
use Rattle.laws.specs.Ring.Expr.{◌⊕◌, ◌⊖◌, ◌⊗◌}
use Rattle.scene.specs.declared.Row.{Row}
use Rattle.orient.specs.Determinant.{Entries, entries, det4}
use Rattle.orient.specs.Variables.{row, rows, det}
use Rattle.orient.specs.declared.minors.Line.{Line}

module _ {R : Type 0} (◌plus◌ ◌minus◌ ◌times◌ : R → R → R) where
  infixl 6 ◌plus◌ ◌minus◌
  infixl 7 ◌times◌
  abbrev pub minor_of_law : R → R → R → R → R
  minor_of_law a b c d = a times d minus b times c

  abbrev pub alternating_of_law : R → R → R → R → R → R → R
  alternating_of_law a b c d e f = a times b minus c times d plus e times f

  abbrev by_minors : Entries R → Entries R → Entries R → Entries R → R
  by_minors a b c d =
      alternating_of_law
      (minor_of_law a.x a.y b.x b.y) (minor_of_law c.z c.w d.z d.w)
      (minor_of_law a.x a.z b.x b.z) (minor_of_law c.y c.w d.y d.w)
      (minor_of_law a.x a.w b.x b.w) (minor_of_law c.y c.z d.y d.z)
      plus alternating_of_law
      (minor_of_law a.y a.z b.y b.z) (minor_of_law c.x c.w d.x d.w)
      (minor_of_law a.y a.w b.y b.w) (minor_of_law c.x c.z d.x d.z)
      (minor_of_law a.z a.w b.z b.w) (minor_of_law c.x c.y d.x d.y)

  -- of three rows, their weights left out
  abbrev pub triple_product_of : Entries R → Entries R → Entries R → R
  triple_product_of p q r =
      alternating_of_law
      p.x (minor_of_law q.y q.z r.y r.z)
      p.y (minor_of_law q.x q.z r.x r.z)
      p.z (minor_of_law q.x q.y r.x r.y)

abbrev pub minor_of : ℤ → ℤ → ℤ → ℤ → ℤ
minor_of = minor_of_law ◌+ℤ◌ ◌-ℤ◌ ◌*ℤ◌

abbrev pub alternating_of : ℤ → ℤ → ℤ → ℤ → ℤ → ℤ → ℤ
alternating_of = alternating_of_law ◌+ℤ◌ ◌-ℤ◌ ◌*ℤ◌

-- the six minors of two rows
abbrev pub join_of : Row → Row → Line
join_of a b =
    record {
      xy = minor_of a.x a.y b.x b.y;
      xz = minor_of a.x a.z b.x b.z;
      xw = minor_of a.x a.w b.x b.w;
      yz = minor_of a.y a.z b.y b.z;
      yw = minor_of a.y a.w b.y b.w;
      zw = minor_of a.z a.w b.z b.w;
    }

-- the minors of the first two rows with those of the last two
abbrev pub det_of_lines : Line → Line → ℤ
det_of_lines l m = alternating_of l.xy m.zw l.xz m.yw l.xw m.yz +ℤ alternating_of l.yz m.xw l.yw m.xz l.zw
    m.xy

-- of three rows, their weights left out
abbrev pub triple_product : Row → Row → Row → ℤ
triple_product p q r = triple_product_of ◌+ℤ◌ ◌-ℤ◌ ◌*ℤ◌ (entries p) (entries q) (entries r)

-- the row a seen from b, a direction
abbrev pub row_minus : Row → Row → Row
row_minus a b = record { x = a.x -ℤ b.x; y = a.y -ℤ b.y; z = a.z -ℤ b.z; w = pos 0 }

pub minors_are : (a b c d : Row) → det_of_lines (join_of a b) (join_of c d) ≡ det4 a b c d
unfolding det4
minors_are a b c d =
    ring (rows (a ∷ b ∷ c ∷ d ∷ [])) (by_minors ◌⊕◌ ◌⊖◌ ◌⊗◌ (row 0) (row 1) (row 2) (row 3)) (det (row 0) (row 1) (row 2) (row 3)) tt
