use Rattle.laws.specs.Range.{loops}
use Rattle.print_answers.specs.Lent.{are_touched}
use Rattle.print_answers.proofs.lent.are_touched.Goals as goal

pub loop-i-init : goal.loop-i-init
unfolding are_touched
loop-i-init c = search loops

pub returns-then-is_touched : goal.returns-then-is_touched
returns-then-is_touched c = search loops

pub loop-i-preserved : goal.loop-i-preserved
loop-i-preserved c = search loops

pub returns : goal.returns
returns c = search loops
