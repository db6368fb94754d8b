-- Byte after byte.
use Rattle.off_form.proofs.Laws.{equal_stops, equals}
use Rattle.off_words.specs.Stands.{is_marked}
use Rattle.off_words.proofs.stands.is_marked.Goals as goal

pub returns-then-byte-ne239 : goal.returns-then-byte-ne239
unfolding is_marked
returns-then-byte-ne239 c = equal_stops _ _ c.byte.ensures.0 c.if-byte-ne239.true

pub returns-then-byte-ne187 : goal.returns-then-byte-ne187
unfolding is_marked
returns-then-byte-ne187 c = search equals

pub returns : goal.returns
unfolding is_marked
returns c = search equals
