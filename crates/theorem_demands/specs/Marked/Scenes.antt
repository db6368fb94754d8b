-- Small scenes, written out: points of weight 1, faces by their corners, a tetrahedron's four faces. Assumes nothing.
use Rattle.std.specs.Prelude.{List, [], ◌∷◌, ℕ, ℤ, pos, neg_ℤ}
use Rattle.scene.specs.Tables.{Table, Tables}
use Rattle.scene.specs.declared.Row.{Row}
use Rattle.scene.specs.declared.Face.{Face}

abbrev pub minus : ℕ → ℤ
minus n = neg_ℤ (pos n)

abbrev pub weighted : ℤ → ℤ → ℤ → ℤ → Row
weighted x y z w = record { x = x; y = y; z = z; w = w }

abbrev pub at : ℤ → ℤ → ℤ → Row
at x y z = weighted x y z (pos 1)

abbrev pub corners : ℕ → ℕ → ℕ → Face
corners p q r = record { p = p; q = q; r = r }

-- 1 2 3, 1 2 4, 1 3 4, 2 3 4
abbrev pub four : List Face
four = corners 1 2 3 ∷ corners 1 2 4 ∷ corners 1 3 4 ∷ corners 2 3 4 ∷ []

-- two faces on the same three corners
abbrev pub twice : List Face
twice = corners 1 2 3 ∷ corners 1 2 3 ∷ []

abbrev pub far_point : Row
far_point = at (pos 100) (pos 101) (pos 103)

abbrev pub scene : Table → Table → Tables
scene a b = record { a = a; b = b; far = far_point }

-- with the far point that way, infinitely far
abbrev pub scene_to : (x y z : ℤ) → Table → Table → Tables
scene_to x y z a b = record { a = a; b = b; far = weighted x y z (pos 0) }
