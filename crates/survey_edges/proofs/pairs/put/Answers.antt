-- Three stores where there is room, and none else.
use mathlib.Core.Path.{refl}
use native.Mathlib.Numerals.{towards_suc}
use borrow.Author.Tests.{le-leb, lt-leb}
use Rattle.questions.specs.WritePairs.{stepped}
use Rattle.survey_edges.proofs.pairs.put.Goals as goal

pub returns-then-at-out : goal.returns-then-at-out
unfolding stepped
returns-then-at-out c = rw (le-leb _ _ c.if-from-seen.true, le-leb _ _ c.if-at-out.true) (simp towards_suc)

pub returns-else-at-out : goal.returns-else-at-out
unfolding stepped
returns-else-at-out c = rw (le-leb _ _ c.if-from-seen.true, lt-leb _ _ c.if-at-out.false) refl

pub returns-else-from-seen : goal.returns-else-from-seen
unfolding stepped
returns-else-from-seen c = rw (lt-leb _ _ c.if-from-seen.false) refl
