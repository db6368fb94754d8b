-- Each test that fails decides; the last one is the answer.
use Rattle.judge.specs.Judge.{are_corners}
use Rattle.laws.specs.Tests.{ands}
use Rattle.judge.proofs.records.are_corners.Goals as goal

pub returns-then-not-is_within : goal.returns-then-not-is_within
unfolding are_corners
returns-then-not-is_within c = search ands fits 4000 depth 14

pub returns-then-not-is_within-2 : goal.returns-then-not-is_within-2
unfolding are_corners
returns-then-not-is_within-2 c = search ands fits 4000 depth 14

pub returns-then-not-is_within-3 : goal.returns-then-not-is_within-3
unfolding are_corners
returns-then-not-is_within-3 c = search ands fits 4000 depth 14

pub returns-then-p-q : goal.returns-then-p-q
unfolding are_corners
returns-then-p-q c = search ands fits 4000 depth 14

pub returns-then-q-r : goal.returns-then-q-r
unfolding are_corners
returns-then-q-r c = search ands fits 4000 depth 14

pub returns : goal.returns
unfolding are_corners
returns c = search ands fits 4000 depth 14
