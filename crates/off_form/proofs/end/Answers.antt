-- Nothing is left exactly where the next item would start at the end.
use Rattle.off_form.proofs.Laws.{end_reached, end_outside}
use Rattle.off_form.proofs.end.Goals as goal

pub returns-then-i-text : goal.returns-then-i-text
returns-then-i-text c = search end_reached

pub returns : goal.returns
returns c = search end_outside
