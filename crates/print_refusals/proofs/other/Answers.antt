-- By the refusal.
use Rattle.print_refusals.specs.Rules.{picked, passed}
use Rattle.print_refusals.proofs.other.Goals as goal

pub returns-then-n-eq17 : goal.returns-then-n-eq17
returns-then-n-eq17 c =
    picked _ _ _ _ c.if-n-eq17.true c.word.ensures

pub returns-then-n-eq18 : goal.returns-then-n-eq18
returns-then-n-eq18 c =
    passed _ _ _ _ c.if-n-eq17.false
    (picked _ _ _ _ c.if-n-eq18.true c.word-then-n-eq18.ensures)

pub returns-then-n-eq19 : goal.returns-then-n-eq19
returns-then-n-eq19 c =
    passed _ _ _ _ c.if-n-eq17.false
    (passed _ _ _ _ c.if-n-eq18.false
    (picked _ _ _ _ c.if-n-eq19.true c.word-then-n-eq19.ensures))

pub returns-then-n-eq22 : goal.returns-then-n-eq22
returns-then-n-eq22 c =
    passed _ _ _ _ c.if-n-eq17.false
    (passed _ _ _ _ c.if-n-eq18.false
    (passed _ _ _ _ c.if-n-eq19.false
    (picked _ _ _ _ c.if-n-eq22.true c.word-then-n-eq22.ensures)))

pub returns : goal.returns
returns c =
    passed _ _ _ _ c.if-n-eq17.false
    (passed _ _ _ _ c.if-n-eq18.false
    (passed _ _ _ _ c.if-n-eq19.false
    (passed _ _ _ _ c.if-n-eq22.false c.word-2.ensures)))
