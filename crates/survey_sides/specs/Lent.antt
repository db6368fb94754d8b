-- The table of words that is lent to the edges of a solid: at each of its vertices, and at the far point, the
-- sides of the other solid's faces. Assumes nothing.
use Rattle.std.specs.Prelude.{◌≡◌, List, ℕ}
use Rattle.scene.specs.declared.Solid.{Solid}
use Rattle.questions.specs.Hits.{PierceView, Own}
use Rattle.survey_sides.specs.Sides.{sides_of}
use Rattle.survey_sides.specs.Tables.{mask_in}

pub record SidesFilled (s : PierceView) (k : Solid) (words : List ℕ) : Type 0 where
  pub own : (u : ℕ) → Own s k u → mask_in words u ≡ sides_of s.row s.face k.other0 k.others u
  pub far : mask_in words s.points ≡ sides_of s.row s.face k.other0 k.others s.points
