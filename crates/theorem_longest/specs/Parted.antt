-- A plane parts two sides of a triangle at most: a tells on which side of it a point lies, and two points are parted where that differs.
-- Assumes nothing.
use Rattle.std.specs.Prelude.{◌≡◌, Bool, true, false, ℕ, ◌+◌, ◌≤◌, min, max}
use native.Mathlib.Omega.{arith, min_cases}
use Rattle.std.proofs.Math.Nat.{max-eq_left, max-eq_right}
use Rattle.laws.specs.Bools.{◌⊕◌, all, ◌≐◌, law}
use Rattle.laws.specs.Mask.{digit}
use Rattle.scene.specs.declared.Face.{Face}
use Rattle.survey_edges.specs.Counted.{sides_where}

two_of_three : (x y z : Bool) → digit (x ⊕ y) + (digit (y ⊕ z) + digit (z ⊕ x)) ≤ 2
two_of_three true true true = omega arith
two_of_three true true false = omega arith
two_of_three true false true = omega arith
two_of_three true false false = omega arith
two_of_three false true true = omega arith
two_of_three false true false = omega arith
two_of_three false false true = omega arith
two_of_three false false false = omega arith

module _ (a : ℕ → Bool) where
  abbrev pub parted : (u v : ℕ) → Bool
  parted u v = a u ⊕ a v

  ends : (p q : ℕ) → parted (min p q) (max p q) ≡ parted p q
  ends p q =
      min_cases p q (parted (min p q) (max p q) ≡ parted p q) (λ l m. rw (m, max-eq_right l))
      (λ l m. rw (m, max-eq_left l) (turned (a q) (a p)))
    where
      turned : (x y : Bool) → x ⊕ y ≡ y ⊕ x
      turned = law (all λ x. all λ y. x ⊕ y ≐ y ⊕ x) tt

  pub sides_parted : (f : Face) → sides_where parted f ≤ 2
  sides_parted f = rw (ends f.p f.q, ends f.q f.r, ends f.r f.p) (two_of_three (a f.p) (a f.q) (a f.r))
