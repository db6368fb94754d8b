-- The judge decides, then 11; else the count.
use Rattle.laws.specs.Exits.{exits}
use Rattle.questions.specs.Answers.{enclosing_in, inside_of}
use Rattle.questions.specs.Laws.{accepted_so, err_so, own_err, both_ok}
use Rattle.kernel.proofs.inside.inside.Goals as goal

pub returns-in_err-judge : goal.returns-in_err-judge
unfolding inside_of enclosing_in
returns-in_err-judge g c = exits c.from_residual.ensures.1 (err_so _ c.judge.ensures c.in_err-judge.was)

pub returns-in_err-inside_fault : goal.returns-in_err-inside_fault
unfolding inside_of enclosing_in
returns-in_err-inside_fault g c =
    exits c.from_residual-in_err-inside_fault.ensures.1 (own_err _ c.judge.ensures c.in_ok-judge.was c.inside_fault.ensures c.in_err-inside_fault.was)

pub inside_of-requires : goal.inside_of-requires
unfolding inside_of enclosing_in
inside_of-requires g c = search (accepted_so, c.in_ok-judge.was, c.in_ok-inside_fault.was)

pub returns : goal.returns
unfolding inside_of enclosing_in
returns g c = search (both_ok, accepted_so, c.in_ok-judge.was, c.in_ok-inside_fault.was)
