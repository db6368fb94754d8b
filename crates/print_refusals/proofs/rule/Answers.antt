-- By the refusal.
use Rattle.print_refusals.specs.Rules.{picked, passed}
use Rattle.print_refusals.proofs.rule.Goals as goal

pub returns-then-n-eq5 : goal.returns-then-n-eq5
returns-then-n-eq5 c =
    picked _ _ _ _ c.if-n-eq5.true c.beyond.ensures

pub returns-then-n-eq6 : goal.returns-then-n-eq6
returns-then-n-eq6 c =
    passed _ _ _ _ c.if-n-eq5.false
    (picked _ _ _ _ c.if-n-eq6.true c.weight.ensures)

pub returns-then-n-eq14 : goal.returns-then-n-eq14
returns-then-n-eq14 c =
    passed _ _ _ _ c.if-n-eq5.false
    (passed _ _ _ _ c.if-n-eq6.false
    (picked _ _ _ _ c.if-n-eq14.true c.word.ensures))

pub returns : goal.returns
returns c =
    passed _ _ _ _ c.if-n-eq5.false
    (passed _ _ _ _ c.if-n-eq6.false
    (passed _ _ _ _ c.if-n-eq14.false c.question.ensures))
