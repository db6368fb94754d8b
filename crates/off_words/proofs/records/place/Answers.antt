-- By the record.
use Rattle.off_words.specs.Records.{picked, passed}
use Rattle.off_words.proofs.records.place.Goals as goal

pub returns-then-k-eq0 : goal.returns-then-k-eq0
returns-then-k-eq0 c = picked _ _ _ _ c.if-k-eq0.true c.word.ensures

pub returns-then-k-eq1 : goal.returns-then-k-eq1
returns-then-k-eq1 c =
    passed _ _ _ _ c.if-k-eq0.false (picked _ _ _ _ c.if-k-eq1.true c.word-then-k-eq1.ensures)

pub returns : goal.returns
returns c =
    passed _ _ _ _ c.if-k-eq0.false (passed _ _ _ _ c.if-k-eq1.false c.piece.ensures)
