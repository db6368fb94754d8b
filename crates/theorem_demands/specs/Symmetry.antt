-- Piercing is of an edge and a face, however they are named: it does not change when the ends are exchanged, when the corners are taken
-- round, or when they are taken the other way. The statement is `Symmetry`; its proof is `Symmetry.Proof.symmetry`. Assumes nothing.
use Rattle.std.specs.Prelude.{◌≡◌, List, ℕ, Ok}
use Rattle.scene.specs.View.{View, view_of, points}
use Rattle.scene.specs.declared.Face.{Face}
use Rattle.judge.specs.Judge.{judged}
use Rattle.pierce.specs.Beside.{Beside}
use Rattle.pierce.specs.Formula.{pierced}

-- the corners in another order: each order is made of these two
abbrev pub round : Face → Face
round f = record { p = f.q; q = f.r; r = f.p }

abbrev pub backward : Face → Face
backward f = record { p = f.r; q = f.q; r = f.p }

pub record Symmetric (v : View) (a b : ℕ) (f : Face) : Type 0 where
  pub ends : pierced (points v) v.row b a f ≡ pierced (points v) v.row a b f
  pub round : pierced (points v) v.row a b (round f) ≡ pierced (points v) v.row a b f
  pub backward : pierced (points v) v.row a b (backward f) ≡ pierced (points v) v.row a b f

-- of every accepted scene, and an edge and a face of five different points
abbrev pub Symmetry : Type 0
Symmetry = (s : List ℕ) → judged s ≡ Ok tt → (a b : ℕ) (f : Face) → Beside (points (view_of s)) a b f → Symmetric (view_of s) a b f
