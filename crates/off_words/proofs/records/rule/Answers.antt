-- By the refusal.
use Rattle.off_words.specs.Records.{picked, passed}
use Rattle.off_words.proofs.records.rule.Goals as goal

pub returns-then-n-eq2 : goal.returns-then-n-eq2
returns-then-n-eq2 c =
    picked _ _ _ _ c.if-n-eq2.true c.word.ensures

pub returns-then-n-eq5 : goal.returns-then-n-eq5
returns-then-n-eq5 c =
    passed _ _ _ _ c.if-n-eq2.false (picked _ _ _ _ c.if-n-eq5.true c.word-then-n-eq5.ensures)

pub returns-then-n-eq6 : goal.returns-then-n-eq6
returns-then-n-eq6 c =
    passed _ _ _ _ c.if-n-eq2.false
    (passed _ _ _ _ c.if-n-eq5.false
    (picked _ _ _ _ c.if-n-eq6.true c.word-then-n-eq6.ensures))

pub returns-then-n-eq7 : goal.returns-then-n-eq7
returns-then-n-eq7 c =
    passed _ _ _ _ c.if-n-eq2.false
    (passed _ _ _ _ c.if-n-eq5.false
    (passed _ _ _ _ c.if-n-eq6.false
    (picked _ _ _ _ c.if-n-eq7.true c.word-then-n-eq7.ensures)))

pub returns-then-n-eq8 : goal.returns-then-n-eq8
returns-then-n-eq8 c =
    passed _ _ _ _ c.if-n-eq2.false
    (passed _ _ _ _ c.if-n-eq5.false
    (passed _ _ _ _ c.if-n-eq6.false
    (passed _ _ _ _ c.if-n-eq7.false
    (picked _ _ _ _ c.if-n-eq8.true c.word-then-n-eq8.ensures))))

pub returns-then-n-eq9 : goal.returns-then-n-eq9
returns-then-n-eq9 c =
    passed _ _ _ _ c.if-n-eq2.false
    (passed _ _ _ _ c.if-n-eq5.false
    (passed _ _ _ _ c.if-n-eq6.false
    (passed _ _ _ _ c.if-n-eq7.false
    (passed _ _ _ _ c.if-n-eq8.false
    (picked _ _ _ _ c.if-n-eq9.true c.word-then-n-eq9.ensures)))))

pub returns-then-n-eq14 : goal.returns-then-n-eq14
returns-then-n-eq14 c =
    passed _ _ _ _ c.if-n-eq2.false
    (passed _ _ _ _ c.if-n-eq5.false
    (passed _ _ _ _ c.if-n-eq6.false
    (passed _ _ _ _ c.if-n-eq7.false
    (passed _ _ _ _ c.if-n-eq8.false
    (passed _ _ _ _ c.if-n-eq9.false
    (picked _ _ _ _ c.if-n-eq14.true c.word-then-n-eq14.ensures))))))

pub returns : goal.returns
returns c =
    passed _ _ _ _ c.if-n-eq2.false
    (passed _ _ _ _ c.if-n-eq5.false
    (passed _ _ _ _ c.if-n-eq6.false
    (passed _ _ _ _ c.if-n-eq7.false
    (passed _ _ _ _ c.if-n-eq8.false
    (passed _ _ _ _ c.if-n-eq9.false
    (passed _ _ _ _ c.if-n-eq14.false c.word-2.ensures))))))
