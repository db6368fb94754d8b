-- The terms as the code forms them: c0 is the determinant of the rows, c3 that of the shifts, and c1 and c2 are sums over the coordinates
-- that the shift stands for. Assumes nothing.
use Rattle.std.specs.Prelude.{◌≡◌, Bool, cond, [], ℤ, ◌+ℤ◌, ◌*ℤ◌}
use Rattle.std.proofs.Math.Bool.{true, false}
use Rattle.laws.specs.Ring.{Expr, ring}
use Rattle.laws.specs.Ring.Expr.{◌⊕◌, ◌⊗◌}
use Rattle.scene.specs.declared.Row.{Row}
use Rattle.orient.specs.Determinant.{Entries, det4}
use Rattle.orient.specs.Terms.{Powers, Numbered, numbered, terms, c0, c1, c2, c3}
use Rattle.orient.specs.Variables.{P, Q, S, U, points, det, t_of}
use Rattle.orient.specs.declared.Point.{Point}

module _ {R : Type 0} (◌times◌ : R → R → R) where
  infixl 7 ◌times◌
  -- the row with the shift k·i, k·i², k·i³ in place of the coordinates that are marked
  abbrev pub marked : Bool → Bool → Bool → Numbered R → Entries R
  marked sx sy sz p =
      record {
        x = cond sx (p.k times p.i) p.x;
        y = cond sy (p.k times p.i times p.i) p.y;
        z = cond sz (p.k times p.i times p.i times p.i) p.z;
        w = p.w;
      }

abbrev pub row_of : Point → Bool → Bool → Bool → Row
row_of p sx sy sz = let r = marked ◌*ℤ◌ sx sy sz (numbered p) in record { x = r.x; y = r.y; z = r.z; w = r.w }

unfoldable pub part_of : Point → Point → Point → Point → Bool → Bool → Bool → ℤ
part_of a b c d sx sy sz = det4 (row_of a sx sy sz) (row_of b sx sy sz) (row_of c sx sy sz) (row_of d sx sy sz)

abbrev part : Bool → Bool → Bool → Expr
part sx sy sz = det (marked ◌⊗◌ sx sy sz P) (marked ◌⊗◌ sx sy sz Q) (marked ◌⊗◌ sx sy sz S) (marked ◌⊗◌ sx sy sz U)

abbrev t : Powers Expr
t = t_of P Q S U

module _ (a b c d : Point) where
  pub c0_parts : c0 a b c d ≡ part_of a b c d false false false
  unfolding terms part_of det4
  c0_parts = ring (points a b c d []) t.e0 (part false false false) tt

  pub c1_parts : c1 a b c d ≡ part_of a b c d true false false +ℤ part_of a b c d false true false +ℤ part_of a b c d false false true
  unfolding terms part_of det4
  c1_parts = ring (points a b c d []) t.e1 (part true false false ⊕ part false true false ⊕ part false false true) tt

  pub c2_parts : c2 a b c d ≡ part_of a b c d true true false +ℤ part_of a b c d true false true +ℤ part_of a b c d false true true
  unfolding terms part_of det4
  c2_parts = ring (points a b c d []) t.e2 (part true true false ⊕ part true false true ⊕ part false true true) tt

  pub c3_parts : c3 a b c d ≡ part_of a b c d true true true
  unfolding terms part_of det4
  c3_parts = ring (points a b c d []) t.e3 (part true true true) tt
