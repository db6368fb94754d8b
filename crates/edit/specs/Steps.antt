-- What a step does, what is said of it, and what is written at the end. Assumes nothing.
use Rattle.std.specs.Prelude.{ℕ, cond, ◌&&◌, List, [], ◌∷◌, leb, length, Ok, Err}
use Rattle.print.specs.Text.{ascii, decimal}
use Rattle.print.specs.Back.{Words}
use Rattle.judge.specs.Judge.{Judged}
use Rattle.questions.specs.Types.{Counted}
use Rattle.questions.specs.declared.Counts.{Counts}
use Rattle.session.specs.Session.{is_whole}
use Rattle.session.specs.Kept as kept
use Rattle.session.specs.declared.Session.{Session}
use Rattle.session.specs.declared.Changed.{Changed}
use Rattle.edit.specs.declared.operations.Operation.{Operation}
use Rattle.edit.specs.declared.operations.Operation.TheVariants as operation

-- as the theorems on sessions name the operations
abbrev pub meant : Operation → kept.Operation
meant (operation.Move p v) = kept.move p v
meant (operation.Far v) = kept.far v
meant (operation.Reverse f) = kept.reverse f

abbrev pub step_of : Session → Operation → Changed
step_of s o = kept.step s (meant o)

-- the counts after it, or its refusal
unfoldable pub told_by : Judged → Counts → Counted
told_by (Ok _) n = Ok n
told_by (Err r) n = Err r

abbrev pub told_of : Changed → Counted
told_of c = told_by c.answer c.session.counts

abbrev pub usage_line : ℕ → Words
usage_line k =
    ascii "edit: word" ∷ decimal k
    ∷ ascii "is wrong or missing; usage: edit [move P X Y Z W | far X Y Z W | reverse F]... [FILE]" ∷ []

-- a session's scene, where there is room for it: nothing of the empty session
unfoldable pub scene_within : ℕ → List ℕ → List ℕ
scene_within room s = cond (is_whole s && leb (length s) room) s []
