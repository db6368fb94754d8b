-- Lines and planes: the six minors of two rows, the four of three rows, and the determinant of four rows as the plane of the first three at
-- the fourth. Assumes nothing.
use Rattle.std.specs.Prelude.{◌≡◌, [], ◌∷◌, ℕ, ℤ, ◌+ℤ◌}
use Rattle.std.proofs.Common.{sym, ◌∙◌}
use Rattle.laws.specs.Ring.{ring}
use Rattle.laws.specs.Ring.Expr.{◌⊕◌, ◌⊖◌, ◌⊗◌}
use Rattle.scene.specs.declared.Row.{Row}
use Rattle.scene.specs.declared.Face.{Face}
use Rattle.orient.specs.Determinant.{Entries, det4}
use Rattle.orient.specs.Columns.{part_of, c0_parts}
use Rattle.orient.specs.Minors.{minor_of_law, alternating_of_law, minor_of, alternating_of, join_of}
use Rattle.orient.specs.Terms.{point_at, c0_at}
use Rattle.orient.specs.Variables.{row, rows, det}
use Rattle.orient.specs.declared.minors.Line.{Line}

-- the minors of a line and a third row: x has all columns but x, and so on
abbrev pub span_of : Line → Row → Row
span_of l r =
    record {
      x = alternating_of l.yz r.w l.yw r.z l.zw r.y;
      y = alternating_of l.xz r.w l.xw r.z l.zw r.x;
      z = alternating_of l.xy r.w l.xw r.y l.yw r.x;
      w = alternating_of l.xy r.z l.xz r.y l.yz r.x;
    }

-- a plane at a row: its minors along the last row of a determinant
abbrev pub dot_of : Row → Row → ℤ
dot_of p t = minor_of p.w p.z t.z t.w +ℤ minor_of p.y p.x t.x t.y

-- the plane of three rows, and that of a face's corners, turned: below zero at a point above it
unfoldable pub plane_of : Row → Row → Row → Row
plane_of a b c = span_of (join_of a b) c

unfoldable pub plane_for : (ℕ → Row) → Face → Row
plane_for row f = plane_of (row f.q) (row f.p) (row f.r)

-- ---- the plane of three rows at a fourth is their determinant

module _ {R : Type 0} (◌plus◌ ◌minus◌ ◌times◌ : R → R → R) where
  infixl 6 ◌plus◌
  abbrev minor : R → R → R → R → R
  minor = minor_of_law ◌plus◌ ◌minus◌ ◌times◌

  abbrev alternating : R → R → R → R → R → R → R
  alternating = alternating_of_law ◌plus◌ ◌minus◌ ◌times◌

  abbrev by_plane : Entries R → Entries R → Entries R → Entries R → R
  by_plane a b c d =
      let xy = minor a.x a.y b.x b.y in
      let xz = minor a.x a.z b.x b.z in
      let xw = minor a.x a.w b.x b.w in
      let yz = minor a.y a.z b.y b.z in
      let yw = minor a.y a.w b.y b.w in
      let zw = minor a.z a.w b.z b.w in
      minor (alternating xy c.z xz c.y yz c.x) (alternating xy c.w xw c.y yw c.x) d.z d.w
      plus minor (alternating xz c.w xw c.z zw c.x) (alternating yz c.w yw c.z zw c.y) d.x d.y

pub plane_dot : (a b c d : Row) → dot_of (plane_of a b c) d ≡ det4 a b c d
unfolding det4 plane_of
plane_dot a b c d =
    ring (rows (a ∷ b ∷ c ∷ d ∷ [])) (by_plane ◌⊕◌ ◌⊖◌ ◌⊗◌ (row 0) (row 1) (row 2) (row 3)) (det (row 0) (row 1) (row 2) (row 3)) tt

-- so it is the first term of four points
pub plane_term : (row : ℕ → Row) (i j k m : ℕ) →
    dot_of (plane_of (row i) (row j) (row k)) (row m) ≡ c0_at row i j k m
unfolding part_of
plane_term row i j k m = plane_dot (row i) (row j) (row k) (row m) ∙ sym (c0_parts (point_at row i) (point_at row j) (point_at row k)
    (point_at row m))
