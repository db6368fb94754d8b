-- As it is defined.
use Rattle.print_answers.specs.Lent.{is_touched}
use Rattle.print_answers.proofs.lent.is_touched.Goals as goal

pub returns : goal.returns
unfolding is_touched
returns c = cc
