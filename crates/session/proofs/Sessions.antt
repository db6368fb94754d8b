-- What a session holds stands after any operations, from any string of bytes. Assumes nothing.
use mathlib.Core.List.{List, [], ◌∷◌}
use Prim.Native.Nat.{ℕ}
use Rattle.session.specs.Session.{opened}
use Rattle.session.specs.Kept.{Holds, Operation, reopen, move, far, reverse, step, after}
use Rattle.session.specs.Kept.{opened_holds, moved_holds, far_holds, reversed_holds}
use Rattle.session.specs.declared.Session.{Session}

pub step_holds : (s : Session) (o : Operation) → Holds s → Holds (step s o).session
step_holds s (reopen b) h = opened_holds b
step_holds s (move p v) h = moved_holds s p v h
step_holds s (far v) h = far_holds s v h
step_holds s (reverse f) h = reversed_holds s f h

pub after_holds : (s : Session) (os : List Operation) → Holds s → Holds (after s os)
after_holds s [] h = h
after_holds s (o ∷ os) h = after_holds (step s o).session os (step_holds s o h)

-- any operations whatever, from any string of bytes
pub sessions_hold : (b : List ℕ) (os : List Operation) → Holds (after (opened b).session os)
sessions_hold b os = after_holds (opened b).session os (opened_holds b)
