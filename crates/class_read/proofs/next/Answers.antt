-- Each part of what is known is told by its own function.
use Rattle.class_read.specs.Totals.{next_of}
use Rattle.class_read.proofs.next.Goals as goal

pub returns : goal.returns
unfolding next_of
returns c = cc
