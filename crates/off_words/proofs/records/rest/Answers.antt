-- By the count.
use mathlib.Core.Path.{refl}
use Rattle.off_words.specs.Records.{among_these, among_those}
use Rattle.off_words.proofs.records.rest.Goals as goal

pub returns-then-n-m : goal.returns-then-n-m
returns-then-n-m c =
    among_these _ _ _ _ c.head_of-m.ensures.vertices c.if-n-m.true c.of_second.ensures

pub returns : goal.returns
returns c =
    among_those _ _ _ _ c.head_of-m.ensures.vertices c.if-n-m.false refl c.face.ensures
