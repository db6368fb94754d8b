-- Byte after byte.
use Rattle.off_form.proofs.Laws.{equal_stops, equals}
use Rattle.off_form.specs.Form.{is_off}
use Rattle.off_form.proofs.is_off.Goals as goal

pub returns-then-byte-ne79 : goal.returns-then-byte-ne79
unfolding is_off
returns-then-byte-ne79 c = equal_stops _ _ c.byte.ensures.0 c.if-byte-ne79.true

pub returns-then-byte-ne70 : goal.returns-then-byte-ne70
unfolding is_off
returns-then-byte-ne70 c = search equals

pub returns : goal.returns
unfolding is_off
returns c = search equals
