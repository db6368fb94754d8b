-- What two texts, a far point and a lent buffer of so many bytes make: the scene's length, or the first refusal. The texts' own refusals
-- come first, the first text before the second, whose offsets are counted on from the first's length; then the counts; then the scene's
-- own; then the buffer's. Assumes nothing.
use Rattle.std.specs.Prelude.{ℕ, ◌+◌, ◌≡◌, List, ◌++◌, Bool, cond, ◌&&◌, length, drop, leb, Result, Ok, Err}
use Rattle.scene.specs.Limits.{limits, within}
use Rattle.scene.specs.Refusal as scene
use Rattle.scene.specs.declared.Refusal.TheVariants.{Counts, BufferTooShort}
use Rattle.judge.specs.Judge.{judged}
use Rattle.judge.specs.Judge.{Judged}
use Rattle.off_form.specs.Form.{form_of, vertices_of, faces_of}
use Rattle.off_form.specs.declared.Flaw.{Flaw}
use Rattle.off_form.specs.declared.Flaw.TheVariants as flaw
use Rattle.off_solids.specs.Fitted.{scene_of}
use Rattle.off_solids.specs.declared.points.Point.{Point}
use Rattle.off_scene.specs.declared.Fault.{Fault}
use Rattle.off_scene.specs.declared.Fault.TheVariants.{Outside, Sides, OfScene}

-- the number and the place of a refusal
abbrev pub number_of : Fault → ℕ
number_of (Outside p) = 20
number_of (Sides p) = 21
number_of (OfScene r) = scene.number_of r

abbrev pub place_of : Fault → ℕ
place_of (Outside p) = p
place_of (Sides p) = p
place_of (OfScene r) = scene.place_of r

-- a text's flaw, its offset counted on from `base`
abbrev pub fault_in : ℕ → Flaw → Fault
fault_in base (flaw.Outside p) = Outside (base + p)
fault_in base (flaw.Sides p) = Sides (base + p)

-- what a text's form says, and else what comes after it
abbrev pub after_text : ℕ → Result ℕ Flaw → Result ℕ Fault → Result ℕ Fault
after_text base (Ok k) rest = rest
after_text base (Err f) rest = Err (fault_in base f)

abbrev pub after_judge : Judged → Result ℕ Fault → Result ℕ Fault
after_judge (Ok _) rest = rest
after_judge (Err r) rest = Err (OfScene r)

-- the counts that a text tells are within the limits
unfoldable pub counts_fit : List ℕ → Bool
counts_fit s =
    within limits.least_vertices limits.most_vertices (vertices_of s) && within limits.least_faces limits.most_faces (faces_of s)

-- the scene s in `room` bytes
unfoldable pub placed : List ℕ → ℕ → Result ℕ Fault
placed s room = cond (leb (length s) room) (Ok (length s)) (Err (OfScene (BufferTooShort (length s))))

unfoldable pub judged_of : List ℕ → ℕ → Result ℕ Fault
judged_of s room = after_judge (judged s) (placed s room)

unfoldable pub counted_of : List ℕ → List ℕ → Point → ℕ → Result ℕ Fault
counted_of a b far room = cond (counts_fit a && counts_fit b) (judged_of (scene_of a b far) room) (Err (OfScene Counts))

abbrev pub second_of : List ℕ → List ℕ → Point → ℕ → Result ℕ Fault
second_of a b far room = after_text (length a) (form_of b) (counted_of a b far room)

abbrev pub made_of : List ℕ → List ℕ → Point → ℕ → Result ℕ Fault
made_of a b far room = after_text 0 (form_of a) (second_of a b far room)

-- the lent buffer afterwards: the scene at its front, or its own contents under a refusal
abbrev pub left_by : Result ℕ Fault → List ℕ → List ℕ → List ℕ
left_by (Ok n) s out = s ++ drop n out
left_by (Err r) s out = out

-- an answer, and what it leaves in the buffer
pub record Makes (m : Result ℕ Fault) (s out out' : List ℕ) (r : Result ℕ Fault) : Type 0 where
  pub answer : r ≡ m
  pub left : out' ≡ left_by r s out
