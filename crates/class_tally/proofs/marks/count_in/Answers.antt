-- Two lines are one higher.
use Rattle.std.proofs.Common.{rules}
use Rattle.class_tally.specs.Counting.{up}
use Rattle.class_tally.proofs.marks.count_in.Goals as goal

pub returns : goal.returns
unfolding up
returns c = search rules
