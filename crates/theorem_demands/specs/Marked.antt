-- The marked examples S1 to S8 and E1 to E5 as one table. Each is a question about an accepted scene: A is points 1 to 3, B is points 4 to
-- 6, each has two faces on the same three corners, and the far point is 7. Assumes nothing.
pub mod Scenes
pub mod Computing
use Rattle.std.specs.Prelude.{◌≡◌, Bool, true, false, List, [], ◌∷◌, ℕ, zero, suc, ℤ, pos, negsuc, Ok, Err}
use Rattle.scene.specs.Tables.{tables_of, face}
use Rattle.scene.specs.declared.Row.{Row}
use Rattle.judge.specs.Judge.{judged}
use Rattle.rules.specs.Write.{bytes_of}
use Rattle.pierce.specs.Formula.{helper}
use Rattle.questions.specs.Answers.{sign_of, pierces_of}
use Rattle.questions.specs.Types.{Signed}
use Rattle.questions.specs.Types.{Answer}
use Rattle.theorem_demands.specs.Marked.Scenes.{minus, weighted, at, twice, scene}

-- the scene of six points
abbrev pub six : (p1 p2 p3 p4 p5 p6 : Row) → List ℕ
six p1 p2 p3 p4 p5 p6 =
    bytes_of (scene (record { rows = p1 ∷ p2 ∷ p3 ∷ []; faces = twice }) (record { rows = p4 ∷ p5 ∷ p6 ∷ []; faces = twice }))

-- ---- the sign of four points

-- the terms that are answered, as far as the first that is not zero, and whether that one is positive
abbrev pub leading : Signed → List ℤ
leading (Err r) = []
leading (Ok (t, positive)) = upto (t.c0 ∷ t.c1 ∷ t.c2 ∷ t.c3 ∷ [])
  where
    upto : List ℤ → List ℤ
    upto [] = []
    upto (pos zero ∷ l) = pos 0 ∷ upto l
    upto (pos (suc n) ∷ l) = pos (suc n) ∷ []
    upto (negsuc n ∷ l) = negsuc n ∷ []

abbrev pub is_positive : Signed → Bool
is_positive (Err r) = false
is_positive (Ok (t, positive)) = positive

-- the four points are points 1 to 4 of a scene
abbrev pub four_of : (p1 p2 p3 p4 : Row) → List ℕ
four_of p1 p2 p3 p4 = six p1 p2 p3 p4 (at (pos 1) (pos 2) (pos 4)) (at (pos 1) (pos 3) (pos 9))

pub record SignIs (s : List ℕ) (a b c d : ℕ) (terms : List ℤ) (positive : Bool) : Type 0 where
  pub accepted : judged s ≡ Ok tt
  pub leads : leading (sign_of s a b c d) ≡ terms
  pub sign : is_positive (sign_of s a b c d) ≡ positive

-- ---- piercing

-- the face is 1 (0,0,0), 2 (4,0,0), 3 (0,4,0), the edge runs from point 5 to point 6, and the helper is point 4 at (0,0,4)
abbrev pub edge_of : (p5 p6 : Row) → List ℕ
edge_of p5 p6 = six (at (pos 0) (pos 0) (pos 0)) (at (pos 4) (pos 0) (pos 0)) (at (pos 0) (pos 4) (pos 0)) (at (pos 0) (pos 0) (pos 4)) p5 p6

pub record PiercedIs (s : List ℕ) (answer : Answer) : Type 0 where
  pub accepted : judged s ≡ Ok tt
  pub helps : helper 7 5 6 (face (tables_of s) 1) ≡ 4
  pub pierced : pierces_of s 5 6 1 ≡ answer

-- ---- the table

abbrev five : Row
five = at (pos 5) (pos 5) (pos 5)

pub record Marked : Type 0 where
  pub s1 : SignIs (four_of (at (pos 0) (pos 0) (pos 0)) (at (pos 1) (pos 0) (pos 0)) (at (pos 0) (pos 1) (pos 0))
      (at (pos 0) (pos 0) (pos 1))) 1 2 3 4 (minus 1 ∷ []) false
  pub s2 : SignIs (four_of (at (pos 0) (pos 0) (pos 0)) (at (pos 1) (pos 0) (pos 0)) (at (pos 0) (pos 1) (pos 0))
      (weighted (pos 0) (pos 0) (minus 1) (minus 1))) 1 2 3 4 (pos 1 ∷ []) true
  pub s3 : SignIs (four_of five five five five) 1 2 3 4 (pos 0 ∷ pos 0 ∷ pos 0 ∷ minus 12 ∷ []) false
  pub s4 : SignIs (four_of five five five five) 2 1 3 4 (pos 0 ∷ pos 0 ∷ pos 0 ∷ pos 12 ∷ []) true
  pub s5 : SignIs (four_of (at (pos 0) (pos 0) (pos 0)) (at (pos 1) (pos 0) (pos 0)) (at (pos 0) (pos 1) (pos 0))
      (at (pos 1) (pos 1) (pos 0))) 1 2 3 4 (pos 0 ∷ minus 30 ∷ []) false
  pub s6 : SignIs (four_of (at (pos 0) (pos 0) (pos 0)) (at (pos 1) (pos 0) (pos 0)) (at (pos 0) (pos 1) (pos 0))
      (at (pos 9) (pos 0) (pos 0))) 1 2 3 4 (pos 0 ∷ pos 0 ∷ minus 354 ∷ []) false
  pub s7 : SignIs (four_of five five five (weighted (minus 5) (minus 5) (minus 5) (minus 1))) 1 2 3 4
      (pos 0 ∷ pos 0 ∷ pos 0 ∷ pos 12 ∷ []) true
  pub s8 : SignIs (four_of (at (pos 0) (pos 0) (pos 0)) (weighted (pos 2) (pos 0) (pos 0) (pos 2)) (at (pos 0) (pos 1) (pos 0))
      (at (pos 1) (pos 1) (pos 0))) 1 2 3 4 (pos 0 ∷ minus 60 ∷ []) false
  pub e1 : PiercedIs (edge_of (at (pos 1) (pos 1) (minus 3)) (at (pos 1) (pos 1) (pos 1))) (Ok true)
  pub e2 : PiercedIs (edge_of (at (pos 1) (pos 1) (minus 3)) (weighted (minus 1) (minus 1) (minus 1) (minus 1))) (Ok false)
  pub e3 : PiercedIs (edge_of (at (pos 5) (pos 5) (minus 3)) (at (pos 5) (pos 5) (pos 1))) (Ok false)
  pub e4 : PiercedIs (edge_of (at (pos 1) (pos 1) (pos 0)) (at (pos 1) (pos 1) (pos 1))) (Ok false)
  pub e5 : PiercedIs (edge_of (at (pos 1) (pos 1) (pos 0)) (at (pos 1) (pos 1) (minus 1))) (Ok true)
