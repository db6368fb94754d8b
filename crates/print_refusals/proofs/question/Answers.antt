-- By the refusal.
use Rattle.print_refusals.specs.Rules.{picked, passed}
use Rattle.print_refusals.proofs.question.Goals as goal

pub returns-then-n-eq10 : goal.returns-then-n-eq10
returns-then-n-eq10 c =
    picked _ _ _ _ c.if-n-eq10.true c.word.ensures

pub returns-then-n-eq11 : goal.returns-then-n-eq11
returns-then-n-eq11 c =
    passed _ _ _ _ c.if-n-eq10.false
    (picked _ _ _ _ c.if-n-eq11.true c.word-then-n-eq11.ensures)

pub returns-then-n-eq12 : goal.returns-then-n-eq12
returns-then-n-eq12 c =
    passed _ _ _ _ c.if-n-eq10.false
    (passed _ _ _ _ c.if-n-eq11.false
    (picked _ _ _ _ c.if-n-eq12.true c.word-then-n-eq12.ensures))

pub returns-then-n-eq13 : goal.returns-then-n-eq13
returns-then-n-eq13 c =
    passed _ _ _ _ c.if-n-eq10.false
    (passed _ _ _ _ c.if-n-eq11.false
    (passed _ _ _ _ c.if-n-eq12.false
    (picked _ _ _ _ c.if-n-eq13.true c.word-then-n-eq13.ensures)))

pub returns : goal.returns
returns c =
    passed _ _ _ _ c.if-n-eq10.false
    (passed _ _ _ _ c.if-n-eq11.false
    (passed _ _ _ _ c.if-n-eq12.false
    (passed _ _ _ _ c.if-n-eq13.false c.other.ensures)))
