-- Three bytes.
use mathlib.Core.Path.{refl}
use Rattle.off_form.proofs.Laws.{equal_stops, equals}
use Rattle.off_form.specs.Form.{is_three}
use Rattle.off_form.proofs.is_three.Goals as goal

pub returns-then-n-ne3 : goal.returns-then-n-ne3
unfolding is_three
returns-then-n-ne3 c = equal_stops _ _ refl c.if-n-ne3.true

pub returns : goal.returns
unfolding is_three
returns c = search equals
