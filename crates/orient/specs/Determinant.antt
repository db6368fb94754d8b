-- The determinant of four rows, along its first row, written once over any sum, difference and product: those of whole numbers, of numbers
-- with an infinitesimal part, or of expressions that a proof computes with. Assumes nothing.
use Rattle.std.specs.Prelude.{ℤ, ◌+ℤ◌, ◌-ℤ◌, ◌*ℤ◌}
use Rattle.scene.specs.declared.Row.{Row}

-- a row of four entries
pub record Entries (R : Type 0) : Type 0 where
  pub x : R
  pub y : R
  pub z : R
  pub w : R

module _ {R : Type 0} (◌plus◌ ◌minus◌ ◌times◌ : R → R → R) where
  infixl 6 ◌plus◌ ◌minus◌
  infixl 7 ◌times◌
  -- of three rows of three entries
  abbrev det3 : (a b c p q r x y z : R) → R
  det3 a b c p q r x y z =
      a times (q times z minus r times y) minus b times (p times z minus r times x) plus c times (p times y minus q times x)

  -- each entry of the first row times the determinant of the other rows without its column, with a minus in every second column
  abbrev pub determinant : Entries R → Entries R → Entries R → Entries R → R
  determinant a b c d =
      a.x times det3 b.y b.z b.w c.y c.z c.w d.y d.z d.w
      minus a.y times det3 b.x b.z b.w c.x c.z c.w d.x d.z d.w
      plus a.z times det3 b.x b.y b.w c.x c.y c.w d.x d.y d.w
      minus a.w times det3 b.x b.y b.z c.x c.y c.z d.x d.y d.z

abbrev pub entries : Row → Entries ℤ
entries r = record { x = r.x; y = r.y; z = r.z; w = r.w }

unfoldable pub det4 : Row → Row → Row → Row → ℤ
det4 a b c d = determinant ◌+ℤ◌ ◌-ℤ◌ ◌*ℤ◌ (entries a) (entries b) (entries c) (entries d)
