-- Each count outside its limits decides; the last one is the answer.
use Rattle.judge.specs.Judge.{counts_ok}
use Rattle.laws.specs.Tests.{ands}
use Rattle.judge.proofs.header.counts_ok.Goals as goal

pub returns-then-not-vertices_ok : goal.returns-then-not-vertices_ok
unfolding counts_ok
returns-then-not-vertices_ok c = search ands depth 14

pub returns-then-not-faces_ok : goal.returns-then-not-faces_ok
unfolding counts_ok
returns-then-not-faces_ok c = search ands depth 14

pub returns-then-not-vertices_ok-2 : goal.returns-then-not-vertices_ok-2
unfolding counts_ok
returns-then-not-vertices_ok-2 c = search ands depth 14

pub returns : goal.returns
unfolding counts_ok
returns c = search ands depth 14
