-- Each side in an odd number of faces decides.
use Rattle.judge.specs.Judge.{sides_ok}
use Rattle.laws.specs.Tests.{ands}
use Rattle.judge.proofs.closed.sides_ok.Goals as goal

pub returns-then-not-side_ok : goal.returns-then-not-side_ok
unfolding sides_ok
returns-then-not-side_ok c = λ a k are. let e = c.side_ok.ensures a k are in search ands depth 14

pub returns-then-not-side_ok-2 : goal.returns-then-not-side_ok-2
unfolding sides_ok
returns-then-not-side_ok-2 c = λ a k are.
    let e = c.side_ok.ensures a k are in
    let f = c.side_ok-2.ensures a k are in
    search ands depth 14

pub returns : goal.returns
unfolding sides_ok
returns c = λ a k are.
    let e = c.side_ok.ensures a k are in
    let f = c.side_ok-2.ensures a k are in
    let g = c.side_ok-3.ensures a k are in
    search ands depth 14
