-- Each refusal in its order.
use Rattle.laws.specs.Exits.{exits}
use Rattle.bench_moves.specs.Bench.{open_fault}
use Rattle.bench_moves.specs.Laws.{then_refused, then_accepted, faults}
use Rattle.bench_moves.proofs.open_fault.Goals as goal

pub returns-in_err-judge : goal.returns-in_err-judge
unfolding open_fault
returns-in_err-judge c = exits c.from_residual.ensures.1 (then_refused _ c.judge.ensures c.in_err-judge.was)

pub returns-in_err-judge-2 : goal.returns-in_err-judge-2
unfolding open_fault
returns-in_err-judge-2 c =
    exits c.from_residual-in_err-judge-2.ensures.1
    (then_accepted c.judge.ensures c.in_ok-judge.was (then_refused _ c.judge-2.ensures c.in_err-judge-2.was))

pub returns-then-not-is_shared : goal.returns-then-not-is_shared
unfolding open_fault
returns-then-not-is_shared c = search (faults, c.in_ok-judge.was, c.in_ok-judge-2.was) depth 14

pub returns : goal.returns
unfolding open_fault
returns c = search (faults, c.in_ok-judge.was, c.in_ok-judge-2.was) depth 14
