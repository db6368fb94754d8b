-- The words of A's vertices, then of B's.
use mathlib.Core.Bool.{false≢true}
use Rattle.judge.proofs.NoneOdd.{none_odd}
use Rattle.judge.proofs.closed.none_odd.Goals as goal

pub returns-then-not-are_alone : goal.returns-then-not-are_alone
returns-then-not-are_alone c = λ e. absurd (false≢true e)

pub returns : goal.returns
returns c =
    λ e.
    none_odd _ c.requires.words.0 c.requires.words.1 (rw c.byte.ensures.0 at (c.are_alone.ensures c.if-not-are_alone.false))
    (rw c.byte-2.ensures.0 at (c.are_alone-2.ensures e)) c.requires.faces.0
