-- The loop's invariant: what is kept so far, with what is kept of the candidates that are left, is what is kept of all. The measure is the
-- word that is left.
use mathlib.Core.Path.{◌≡◌}
use Prim.Native.Nat.{◌+◌, ◌≤◌}
use Rattle.survey_sides.specs.Candidates.{AtEach}
use Rattle.survey_sides.specs.Tables.{mask_in}
use Rattle.survey_narrow.specs.Narrow.{Numbered, narrowed_of}
use Rattle.survey_narrow.proofs.narrowed.Given as goal

abbrev pub invariant-loop-left : goal.invariant-loop-left
invariant-loop-left l =
    (l.left ≤ l.candidates) × AtEach (Numbered l.from) l.left × (l.word + narrowed_of (mask_in l.separating) l.from l.at l.left
    ≡ narrowed_of (mask_in l.separating) l.from l.at l.candidates)

abbrev pub decreases-loop-left : goal.decreases-loop-left
decreases-loop-left l = l.left
