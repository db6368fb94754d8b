-- c0 worked out in doubles. Of any four points of a scene, the far point with weight 0 too, it is the c0 of their rows, exactly: each
-- product and sum on the way is a whole number below 2 ^ 53, by the limits of a scene. Assumes nothing.
use Rattle.std.specs.Prelude.{◌≡◌, ℕ, false, List, [], ◌∷◌, ℤ, pos, Float, Ok}
use Rattle.std.proofs.Math.Path.{sym}
use Rattle.std.proofs.Common.{ap, ◌∙◌, subst}
use Rattle.std.specs.Float.{fin, binary64}
use Rattle.std.specs.Float.Ieee.{add, sub, mul, of_int}
use Rattle.laws.specs.Ring.{Expr, eval, ring}
use Rattle.laws.specs.Ring.Expr.{◌⊕◌, ◌⊖◌, ◌⊗◌}
use Rattle.scene.specs.Limits.{limits}
use Rattle.scene.specs.Tables.{row, tables_of}
use Rattle.scene.specs.declared.Row.{Row}
use Rattle.judge.specs.Judge.{judged}
use Rattle.rules.proofs.Given.{rows_within}
use Rattle.orient.specs.Determinant.{Entries, det4}
use Rattle.orient.specs.Terms.{terms_at, point_at}
use Rattle.orient.specs.Columns.{part_of, c0_parts}
use Rattle.orient.specs.Variables as variables
use Rattle.orient.specs.Variables.{rows, det}
use Rattle.doubles.specs.Whole.{Is}
use Rattle.doubles.specs.Exact.{Entry, settled, settled_is}
use Rattle.doubles.specs.Taking.{Are, row_of, IsPoint, row_of_law, are_point}
use Rattle.doubles.specs.declared.Vertex.{Vertex}

module _ {R : Type 0} (◌plus◌ ◌minus◌ ◌times◌ : R → R → R) where
  infixl 6 ◌plus◌ ◌minus◌
  infixl 7 ◌times◌
  abbrev minor : R → R → R → R → R
  minor a b c d = a times d minus b times c

  -- by the minors of the first two rows and of the last two
  abbrev by_minors : Entries R → Entries R → Entries R → Entries R → R
  by_minors a b c d =
      minor a.x a.y b.x b.y times minor c.z c.w d.z d.w
      minus minor a.x a.z b.x b.z times minor c.y c.w d.y d.w
      plus minor a.x a.w b.x b.w times minor c.y c.z d.y d.z
      plus minor a.y a.z b.y b.z times minor c.x c.w d.x d.w
      minus minor a.y a.w b.y b.w times minor c.x c.z d.x d.z
      plus minor a.z a.w b.z b.w times minor c.x c.y d.x d.y

abbrev fields : Vertex → Entries Float
fields v = record { x = v.x; y = v.y; z = v.z; w = v.w }

-- the expression in doubles
unfoldable pub minors_of : Vertex → Vertex → Vertex → Vertex → Float
minors_of a b c d = by_minors (add binary64) (sub binary64) (mul binary64) (fields a) (fields b) (fields c) (fields d)

-- ---- what is asked and promised

pub record Points (a b c d : Vertex) : Type 0 where
  pub first : IsPoint a
  pub second : IsPoint b
  pub third : IsPoint c
  pub fourth : IsPoint d

-- the whole number c0 of the rows that these doubles are: their determinant
abbrev pub whole_c0 : Vertex → Vertex → Vertex → Vertex → ℤ
whole_c0 a b c d = det4 (row_of a) (row_of b) (row_of c) (row_of d)

-- of four points r is that number, and of the doubles that are it the number's own: a zero is never minus zero. Of any other doubles it is
-- the expression, with zero added last.
pub record IsC0 (a b c d : Vertex) (r : Float) : Type 0 where
  pub is : Points a b c d → Is r (whole_c0 a b c d)
  pub own : Points a b c d → r ≡ of_int binary64 (whole_c0 a b c d)
  pub worked : r ≡ add binary64 (minors_of a b c d) (fin false 0 (pos 0))

-- no second answer
pub one_c0 : (a b c d : Vertex) (r q : Float) → IsC0 a b c d r → IsC0 a b c d q → r ≡ q
one_c0 a b c d r q x y = x.worked ∙ sym y.worked

-- ---- the expression is the determinant

abbrev minors : Expr
minors = by_minors ◌⊕◌ ◌⊖◌ ◌⊗◌ (variables.row 0) (variables.row 1) (variables.row 2) (variables.row 3)

minors_are : (a b c d : Row) → eval (rows (a ∷ b ∷ c ∷ d ∷ [])) minors ≡ det4 a b c d
unfolding det4
minors_are a b c d = ring (rows (a ∷ b ∷ c ∷ d ∷ [])) minors
    (det (variables.row 0) (variables.row 1) (variables.row 2) (variables.row 3)) tt

abbrev four : (v : Vertex) → IsPoint v → List Entry → List Entry
four v p l =
    record { double = v.x; value = (row_of v).x; most = limits.most_coordinate; same = p.are.x; within = p.within.x }
    ∷ record { double = v.y; value = (row_of v).y; most = limits.most_coordinate; same = p.are.y; within = p.within.y }
    ∷ record { double = v.z; value = (row_of v).z; most = limits.most_coordinate; same = p.are.z; within = p.within.z }
    ∷ record { double = v.w; value = (row_of v).w; most = limits.most_weight; same = p.are.w; within = p.within.w }
    ∷ l

-- with zero added
pub c0_worked : {a b c d : Vertex} {m : Float} → m ≡ minors_of a b c d → IsC0 a b c d (add binary64 m (fin false 0 (pos 0)))
unfolding minors_of
c0_worked {a} {b} {c} {d} q =
    let numbers : Points a b c d → List Entry = λ p. four a p.first (four b p.second (four c p.third (four d p.fourth []))) in
    let e = minors_are (row_of a) (row_of b) (row_of c) (row_of d) in
    let done : Float = add binary64 (minors_of a b c d) (fin false 0 (pos 0)) in
    let worked = ap (λ (x : Float). add binary64 x (fin false 0 (pos 0))) q in
    record {
      is = λ p. subst (λ (x : Float). Is x (whole_c0 a b c d)) (sym worked) (subst (Is done) e (settled_is (numbers p) minors tt tt));
      own = λ p. worked ∙ settled (numbers p) minors tt ∙ ap (of_int binary64) e;
      worked = worked;
    }

-- ---- any four points of an accepted scene, by their numbers i, j, k, l, each in doubles

module _ (s : List ℕ) (ok : judged s ≡ Ok tt) where
  point_of_law : (i : ℕ) (v : Vertex) → Are v (row (tables_of s) i) → IsPoint v
  point_of_law i v h = are_point v (row (tables_of s) i) h (rows_within limits s ok i)

  module _ (i j k l : ℕ) (a b c d : Vertex) (p : Are a (row (tables_of s) i)) (q : Are b (row (tables_of s) j))
      (u : Are c (row (tables_of s) k)) (v : Are d (row (tables_of s) l)) where
    is_term : whole_c0 a b c d ≡ (terms_at (row (tables_of s)) i j k l).c0
    unfolding terms_at part_of
    is_term =
        let r = row (tables_of s) in
        let e1 = row_of_law a (r i) p in
        let e2 = row_of_law b (r j) q in
        let e3 = row_of_law c (r k) u in
        let e4 = row_of_law d (r l) v in
        (λ x. det4 (e1 x) (e2 x) (e3 x) (e4 x)) ∙ sym (c0_parts (point_at r i) (point_at r j) (point_at r k) (point_at r l))

    pub scene_points : Points a b c d
    scene_points = record { first = point_of_law i a p; second = point_of_law j b q; third = point_of_law k c u; fourth = point_of_law l d v }

    -- what is answered of them is the scene's c0: the whole number, and its own double
    pub c0_is : (r : Float) → IsC0 a b c d r → Is r (terms_at (row (tables_of s)) i j k l).c0
    c0_is r h = subst (Is r) is_term (h.is scene_points)

    pub c0_exact : (r : Float) → IsC0 a b c d r → r ≡ of_int binary64 (terms_at (row (tables_of s)) i j k l).c0
    c0_exact r h = h.own scene_points ∙ ap (of_int binary64) is_term
