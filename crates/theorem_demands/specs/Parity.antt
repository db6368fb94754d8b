-- Demand 3, parity. For bytes that the judge accepts, solid 1 or 2, and three different numbers from 1 to a+b+1 none of which is a vertex
-- of that solid: the ones of the three masks add up to an even number. And the route: the oddness from u to v is that from u to w plus that
-- from v to w. The same is said of the numbers of pierced faces. It holds with any limits; with this kernel's, the masks are those of the
-- public question. Assumes nothing.
use Rattle.std.specs.Prelude.{◌≡◌, ◌≢◌, List, [], ◌∷◌, ℕ, ◌+◌, ◌%◌, Ok}
use Rattle.std.specs.Int.Count.{ones}
use Rattle.laws.specs.Bools.{◌⊕◌}
use Rattle.laws.specs.Lists.{Each, Number}
use Rattle.scene.specs.Limits.{Limits, limits}
use Rattle.scene.specs.View.{view_of, solid}
use Rattle.judge.specs.Judge.{judged_at}
use Rattle.pierce_masks.specs.Faces.{is_odd}
use Rattle.questions.specs.Answers.{mask_in, faces_are, masked_of}
use Rattle.theorem_demands.specs.Words.{SolidNumber, Point, VertexOf, Pierces}
use Rattle.theorem_demands.specs.Exact.{numbered}

-- three different numbers from 1 to a+b+1, none of which is a vertex of solid k
pub record Outside (s : List ℕ) (k u v w : ℕ) : Type 0 where
  pub each : Each (λ i. Point s i × ¬ VertexOf s k i) (u ∷ v ∷ w ∷ [])
  pub different : (u ≢ v) × (u ≢ w) × (v ≢ w)

-- X, of every scene that is accepted with the limits l, either solid and three such numbers
abbrev Always : Limits → (List ℕ → (k u v w : ℕ) → Type 0) → Type 0
Always l X = (s : List ℕ) → judged_at l s ≡ Ok tt → (k : ℕ) → SolidNumber k → (u v w : ℕ) → Outside s k u v w → X s k u v w

-- demand 3
abbrev pub Parity : Limits → Type 0
Parity l =
    Always l (λ s k u v w. (ones (mask_in (view_of s) u v k) + ones (mask_in (view_of s) v w k) + ones (mask_in (view_of s) w u k)) % 2 ≡ 0)

-- the same by the numbers of pierced faces: of solid k's faces the sides pierce x, y and z
abbrev pub faces_of : List ℕ → ℕ → List ℕ
faces_of s k = numbered ((solid (view_of s) k).face0 + 1) (solid (view_of s) k).faces

abbrev pub CountParity : Limits → Type 0
CountParity l =
    Always l (λ s k u v w. (x y z : ℕ) → Number (Pierces s u v) (faces_of s k) x → Number (Pierces s v w) (faces_of s k) y →
    Number (Pierces s w u) (faces_of s k) z → (x + y + z) % 2 ≡ 0)

-- the route
abbrev pub Route : Limits → Type 0
Route l = Always l (λ s k u v w. is_odd (mask_in (view_of s) u v k) ≡ is_odd (mask_in (view_of s) u w k) ⊕ is_odd (mask_in (view_of s) v w k))

-- with this kernel's limits these masks are what the question answers
abbrev pub MasksAreTheAnswers : Type 0
MasksAreTheAnswers = Always limits (λ s k u v w. masked_of s u v k ≡ faces_are (mask_in (view_of s) u v k) (ones (mask_in (view_of s) u v k)))

-- all of it, of whatever limits the scenes are judged with, and so of this kernel's
pub record ParityAt (l : Limits) : Type 0 where
  pub parity : Parity l
  pub count_parity : CountParity l
  pub route : Route l
