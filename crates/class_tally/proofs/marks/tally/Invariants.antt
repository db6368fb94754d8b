-- What is counted so far, and what the rest of the block adds, make the whole.
use Rattle.std.proofs.Common.{length, ◌-◌}
use Rattle.class_tally.specs.Counting.{Sofar}
use Rattle.class_tally.proofs.marks.tally.Given as goal

abbrev pub invariant-loop-at : goal.invariant-loop-at
invariant-loop-at l = Sofar l.block l.at l.lines l.pairs

abbrev pub decreases-loop-at : goal.decreases-loop-at
decreases-loop-at l = length l.block - l.at
