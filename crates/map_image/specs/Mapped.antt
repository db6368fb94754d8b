-- A map is a 4×4 table of whole numbers; a row (x, y, z, w) is multiplied by it from the right. The determinant of four rows so mapped is
-- theirs times that of the table. Assumes nothing.
use Rattle.std.specs.Prelude.{◌≡◌, [], ◌∷◌, ℕ, ℤ, ◌+ℤ◌, ◌*ℤ◌}
use Rattle.laws.specs.Ring.{Expr, ring}
use Rattle.laws.specs.Ring.Expr.{◌⊕◌, ◌⊗◌}
use Rattle.scene.specs.declared.Row.{Row}
use Rattle.orient.specs.Determinant.{Entries, entries, det4}
use Rattle.orient.specs.Variables.{row, rows, det}
use Rattle.map_image.specs.declared.Map.{Map}

module _ {R : Type 0} (◌plus◌ ◌times◌ : R → R → R) where
  infixl 6 ◌plus◌
  infixl 7 ◌times◌
  -- the row r times the table of rows x, y, z, w: entry j is the sum over k of r's entry k times entry j of the table's row k
  abbrev pub product : (r x y z w : Entries R) → Entries R
  product r x y z w =
      record {
        x = r.x times x.x plus r.y times y.x plus r.z times z.x plus r.w times w.x;
        y = r.x times x.y plus r.y times y.y plus r.z times z.y plus r.w times w.y;
        z = r.x times x.z plus r.y times y.z plus r.z times z.z plus r.w times w.z;
        w = r.x times x.w plus r.y times y.w plus r.z times z.w plus r.w times w.w;
      }

unfoldable pub mapped : Map → Row → Row
mapped m r =
    let p = product ◌+ℤ◌ ◌*ℤ◌ (entries r) (entries m.x) (entries m.y) (entries m.z) (entries m.w) in
    record { x = p.x; y = p.y; z = p.z; w = p.w }

abbrev pub determinant_of : Map → ℤ
determinant_of m = det4 m.x m.y m.z m.w

-- row j of variables, times the table of variables
abbrev image : ℕ → Entries Expr
image j = product ◌⊕◌ ◌⊗◌ (row j) (row 4) (row 5) (row 6) (row 7)

pub det_mapped : (m : Map) (a b c d : Row) → det4 (mapped m a) (mapped m b) (mapped m c) (mapped m d) ≡ det4 a b c d *ℤ determinant_of m
unfolding mapped det4
det_mapped m a b c d =
    ring (rows (a ∷ b ∷ c ∷ d ∷ m.x ∷ m.y ∷ m.z ∷ m.w ∷ []))
    (det (image 0) (image 1) (image 2) (image 3)) (det (row 0) (row 1) (row 2) (row 3) ⊗ det (row 4) (row 5) (row 6) (row 7)) tt
