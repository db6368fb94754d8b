-- The shift of a point as a row of its own, a direction: c1 of four points is the sum of four determinants, each with the shift in place
-- of one of the rows. Assumes nothing.
use Rattle.std.specs.Prelude.{◌≡◌, true, false, [], ℕ, ◌*◌, ◌≤◌, pos, ◌+ℤ◌}
use Rattle.std.proofs.Common.{lit≤}
use Rattle.laws.specs.Ring.{Expr, ring}
use Rattle.laws.specs.Ring.Expr.{lit, ◌⊕◌, ◌⊗◌}
use Rattle.laws.specs.Size.{below}
use Rattle.scene.specs.Limits.{limits, most_points}
use Rattle.scene.specs.Arrays.{AllWithin}
use Rattle.scene.specs.declared.Row.{Row}
use Rattle.orient.specs.Determinant.{Entries, det4}
use Rattle.orient.specs.Terms.{Numbered, terms, c1, point_at}
use Rattle.orient.specs.Columns.{marked, row_of}
use Rattle.orient.specs.Formed.{RowSize}
use Rattle.orient.specs.Sizes.{row_size, point_within}
use Rattle.orient.specs.Variables.{P, Q, S, U, points, det, t_of}
use Rattle.orient.specs.declared.Point.{Point}

unfoldable pub shift_of : Point → Row
shift_of p = let r = row_of p true true true in record { x = r.x; y = r.y; z = r.z; w = pos 0 }

abbrev pub shift_at : (ℕ → Row) → ℕ → Row
shift_at row i = shift_of (point_at row i)

-- ---- c1 by rows

abbrev here : Point → Row
here p = row_of p false false false

abbrev at : Numbered Expr → Entries Expr
at = marked ◌⊗◌ false false false

abbrev shift : Numbered Expr → Entries Expr
shift p = let r = marked ◌⊗◌ true true true p in record { x = r.x; y = r.y; z = r.z; w = lit (pos 0) }

pub c1_rows : (a b c d : Point) →
    c1 a b c d
    ≡ det4 (shift_of a) (here b) (here c) (here d) +ℤ det4 (here a) (shift_of b) (here c) (here d)
    +ℤ det4 (here a) (here b) (shift_of c) (here d) +ℤ det4 (here a) (here b) (here c) (shift_of d)
unfolding terms det4 shift_of
c1_rows a b c d =
    ring (points a b c d []) (t_of P Q S U).e1
    (det (shift P) (at Q) (at S) (at U) ⊕ det (at P) (shift Q) (at S) (at U) ⊕ det (at P) (at Q) (shift S) (at U)
    ⊕ det (at P) (at Q) (at S) (shift U)) tt

-- ---- how large a shift is

abbrev pub most_shift : ℕ
most_shift = limits.most_weight * most_points limits * most_points limits * most_points limits

pub shift_size : (row : ℕ → Row) (i : ℕ) → AllWithin limits row → i ≤ most_points limits →
    RowSize most_shift most_shift most_shift 0 (shift_at row i)
unfolding shift_of
shift_size row i h k =
    let s = row_size limits true true true (lit≤ tt) (point_within limits row i (h i) k) in
    record { x = below s.x (lit≤ tt); y = below s.y (lit≤ tt); z = s.z; w = record { size = lit≤ tt } }
