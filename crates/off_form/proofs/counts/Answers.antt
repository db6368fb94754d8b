-- From the keyword's end on.
use Rattle.off_form.proofs.Laws.{counts_from}
use Rattle.off_form.proofs.counts.Goals as goal

pub returns : goal.returns
returns c = search counts_from
