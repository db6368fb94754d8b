-- c1 and c2 of four points of weight 1 are sums of determinants of three rows seen from the last (`specs/Ones.antt`). Assumes nothing.
use Rattle.std.specs.Prelude.{◌≡◌, Bool, [], ◌∷◌, ℕ, ◌+◌, ◌*◌, ℤ, pos, ◌+ℤ◌}
use Rattle.std.proofs.Common.{sym, ◌∙◌}
use Rattle.std.proofs.Math.Bool.{true, false}
use Rattle.laws.specs.Ring.{Expr, ring, env}
use Rattle.laws.specs.Ring.Expr.{var, lit, ◌⊕◌, ◌⊖◌, ◌⊗◌}
use Rattle.orient.specs.Determinant.{Entries}
use Rattle.orient.specs.Minors.{triple_product_of}
use Rattle.orient.specs.Terms.{Powers, Numbered, terms, c1, c2}
use Rattle.orient.specs.Variables.{t_of}
use Rattle.orient.specs.Columns.{marked}
use Rattle.orient.specs.declared.Point.{Point}
use Rattle.orient.specs.Ones.{Ones, directions_part}

abbrev one_shifted : (a b c d : Point) → ℤ
one_shifted a b c d = directions_part a b c d true false false +ℤ directions_part a b c d false true false +ℤ directions_part a b c d false
    false true

abbrev two_shifted : (a b c d : Point) → ℤ
two_shifted a b c d = directions_part a b c d true true false +ℤ directions_part a b c d true false true +ℤ directions_part a b c d false true
    true

-- ---- the terms are these sums: of points of variables, four each, whose weight is written as 1

abbrev one : ℕ → Numbered Expr
one j = record { x = var (4 * j); y = var (4 * j + 1); z = var (4 * j + 2); w = lit (pos 1); k = lit (pos 1); i = var (4 * j + 3) }

abbrev t : Powers Expr
t = t_of (one 0) (one 1) (one 2) (one 3)

abbrev direction : Bool → ℕ → Entries Expr
direction s j =
    let r = marked ◌⊗◌ s s s (one j) in
    let o = marked ◌⊗◌ s s s (one 3) in
    record { x = r.x ⊖ o.x; y = r.y ⊖ o.y; z = r.z ⊖ o.z; w = lit (pos 0) }

abbrev part : Bool → Bool → Bool → Expr
part sa sb sc = triple_product_of ◌⊕◌ ◌⊖◌ ◌⊗◌ (direction sa 0) (direction sb 1) (direction sc 2)

abbrev unit : Point → Point
unit p = record { x = p.x; y = p.y; z = p.z; w = pos 1; n = p.n }

module _ (a b c d : Point) where
  abbrev numbers : ℕ → ℤ
  numbers =
      env
      (a.x ∷ a.y ∷ a.z ∷ a.n ∷ b.x ∷ b.y ∷ b.z ∷ b.n ∷ c.x ∷ c.y ∷ c.z ∷ c.n ∷ d.x ∷ d.y ∷ d.z ∷ d.n ∷ [])

  c1_unit : c1 (unit a) (unit b) (unit c) (unit d) ≡ one_shifted (unit a) (unit b) (unit c) (unit d)
  unfolding terms directions_part
  c1_unit = ring numbers t.e1 (part true false false ⊕ part false true false ⊕ part false false true) tt

  c2_unit : c2 (unit a) (unit b) (unit c) (unit d) ≡ two_shifted (unit a) (unit b) (unit c) (unit d)
  unfolding terms directions_part
  c2_unit = ring numbers t.e2 (part true true false ⊕ part true false true ⊕ part false true true) tt

unit_is : (p : Point) → p.w ≡ pos 1 → unit p ≡ p
unit_is p e i = record { x = p.x; y = p.y; z = p.z; w = sym e i; n = p.n }

module _ {a b c d : Point} (h : Ones a b c d) where
  -- what is so of them with the weights written as 1 is so of them
  as_units : {R : Type 0} (f : Point → Point → Point → Point → R) → f (unit a) (unit b) (unit c) (unit d) ≡ f a b c d
  as_units f i = f (unit_is a h.a i) (unit_is b h.b i) (unit_is c h.c i) (unit_is d h.d i)

  pub c1_seen : one_shifted a b c d ≡ c1 a b c d
  c1_seen = sym (as_units one_shifted) ∙ sym (c1_unit a b c d) ∙ as_units c1

  pub c2_seen : two_shifted a b c d ≡ c2 a b c d
  c2_seen = sym (as_units two_shifted) ∙ sym (c2_unit a b c d) ∙ as_units c2
