-- Four bytes.
use mathlib.Core.Path.{refl}
use Rattle.off_form.proofs.Laws.{equal_stops, equals}
use Rattle.off_form.specs.Form.{is_four}
use Rattle.off_form.proofs.is_four.Goals as goal

pub returns-then-n-ne4 : goal.returns-then-n-ne4
unfolding is_four
returns-then-n-ne4 c = equal_stops _ _ refl c.if-n-ne4.true

pub returns-then-byte-ne52 : goal.returns-then-byte-ne52
unfolding is_four
returns-then-byte-ne52 c = search equals

pub returns : goal.returns
unfolding is_four
returns c = search equals
