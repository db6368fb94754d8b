-- Rows and points of variables, and the whole numbers that they stand for: an identity of determinants is proved by computing with these.
-- Assumes nothing.
use Rattle.std.specs.Prelude.{List, [], ◌∷◌, ℕ, ◌+◌, ◌*◌, ℤ, pos}
use Rattle.laws.specs.Ring.{Expr, env}
use Rattle.laws.specs.Ring.Expr.{var, lit, ◌⊕◌, ◌⊖◌, ◌⊗◌}
use Rattle.scene.specs.declared.Row.{Row}
use Rattle.orient.specs.Determinant.{Entries, determinant}
use Rattle.orient.specs.Terms.{Powers, Numbered, powers, numbered}
use Rattle.orient.specs.declared.Point.{Point}

-- ---- row j is the variables 4j to 4j + 3

abbrev pub row : ℕ → Entries Expr
row j = record { x = var (4 * j); y = var (4 * j + 1); z = var (4 * j + 2); w = var (4 * j + 3) }

abbrev pub rows : List Row → ℕ → ℤ
rows l = env (flat l)
  where
    flat : List Row → List ℤ
    flat [] = []
    flat (a ∷ l) = a.x ∷ a.y ∷ a.z ∷ a.w ∷ flat l

abbrev pub det : Entries Expr → Entries Expr → Entries Expr → Entries Expr → Expr
det = determinant ◌⊕◌ ◌⊖◌ ◌⊗◌

-- ---- point j is the variables 6j to 6j + 5, and those of the list come after four points

abbrev pub point : ℕ → Numbered Expr
point j =
    record { x = var (6 * j); y = var (6 * j + 1); z = var (6 * j + 2); w = var (6 * j + 3); k = var (6 * j + 4); i = var (6 * j + 5) }

abbrev pub P : Numbered Expr
P = point 0

abbrev pub Q : Numbered Expr
Q = point 1

abbrev pub S : Numbered Expr
S = point 2

abbrev pub U : Numbered Expr
U = point 3

abbrev pub points : (a b c d : Point) → List ℤ → ℕ → ℤ
points a b c d l = env (six a (six b (six c (six d l))))
  where
    six : Point → List ℤ → List ℤ
    six a l = let p = numbered a in p.x ∷ p.y ∷ p.z ∷ p.w ∷ p.k ∷ p.i ∷ l

-- the terms of points of variables
abbrev pub t_of : Numbered Expr → Numbered Expr → Numbered Expr → Numbered Expr → Powers Expr
t_of = powers (lit (pos 0)) ◌⊕◌ ◌⊖◌ ◌⊗◌
