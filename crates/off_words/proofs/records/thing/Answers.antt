-- By the refusal.
use Rattle.off_words.specs.Records.{picked, passed, point_put}
use Rattle.off_words.proofs.records.thing.Goals as goal

pub returns-then-n-eq8 : goal.returns-then-n-eq8
returns-then-n-eq8 c =
    picked _ _ _ _ c.if-n-eq8.true (point_put _ _ _ c.minus.ensures c.piece.ensures)

pub returns : goal.returns
returns c =
    passed _ _ _ _ c.if-n-eq8.false c.place.ensures
