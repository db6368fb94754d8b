-- Piercing by five signs, as the tutorial notes have it, and the law that in a scene they are the formula, ties included. Assumes nothing.
use Rattle.std.specs.Prelude.{◌≡◌, Bool, not, ◌&&◌, ℕ, ◌≤◌}
use Rattle.std.proofs.Common.{sym}
use Rattle.laws.specs.Bools.{◌⊕◌}
use Rattle.scene.specs.declared.Row.{Row}
use Rattle.scene.specs.declared.Face.{Face}
use Rattle.orient.specs.Signs.{mixed}
use Rattle.orient.specs.Terms.{positive_at}
use Rattle.orient.specs.Weighted.{Weighted}
use Rattle.pierce.specs.Beside.{Beside}
use Rattle.pierce.specs.Five.{hits}
use Rattle.pierce.specs.Formula.{pierced}
use Rattle.pierce.specs.Scene.{scene_five}

-- the ends lie on different sides of the face's plane, and the edge's signs against the three sides, taken round the face, are all alike
unfoldable pub five_signs : (ℕ → Row) → (u v : ℕ) → Face → Bool
five_signs row u v f =
    let above : ℕ → Bool = λ t. positive_at row f.p f.q f.r t in
    let against : ℕ → ℕ → Bool = λ s t. positive_at row u v s t in
    (above u ⊕ above v) && not (mixed (against f.p f.q) (against f.q f.r) (against f.r f.p))

pub five_pierce : (n : ℕ) (row : ℕ → Row) → Weighted n row → (u v : ℕ) (f : Face) → 6 ≤ n → Beside n u v f →
    five_signs row u v f ≡ pierced n row u v f
unfolding five_signs hits
five_pierce n row w u v f l d = sym (scene_five n row w u v f l d)
