-- Each number that is not 0 decides.
use Rattle.laws.specs.Tests.{ands}
use Rattle.session.specs.Session.{is_nowhere}
use Rattle.session.proofs.faults.is_nowhere.Goals as goal

pub returns-then-not-is_zero : goal.returns-then-not-is_zero
unfolding is_nowhere
returns-then-not-is_zero c = search ands depth 14

pub returns-then-not-is_zero-2 : goal.returns-then-not-is_zero-2
unfolding is_nowhere
returns-then-not-is_zero-2 c = search ands depth 14

pub returns-then-not-is_zero-3 : goal.returns-then-not-is_zero-3
unfolding is_nowhere
returns-then-not-is_zero-3 c = search ands depth 14

pub returns : goal.returns
unfolding is_nowhere
returns c = search ands depth 14
