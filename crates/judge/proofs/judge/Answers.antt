-- The first stage that refuses decides.
use Rattle.judge.specs.Judge.{judged_at}
use Rattle.judge.specs.Laws.{then_accepted, chain}
use Rattle.judge.specs.Passed.{passed}
use borrow.Author.Rules.{rules}
use Rattle.judge.proofs.judge.Goals as goal

pub solids_fault-requires : goal.solids_fault-requires
solids_fault-requires c =
    passed _ c.header_fault.ensures (search rules) c.records_fault.ensures (search rules)

pub returns-in_err-header_fault : goal.returns-in_err-header_fault
unfolding judged_at
returns-in_err-header_fault c = search (chain, rules) depth 12

pub returns-in_err-records_fault : goal.returns-in_err-records_fault
unfolding judged_at
returns-in_err-records_fault c = search (chain, rules) depth 12

pub returns : goal.returns
unfolding judged_at
returns c =
    then_accepted c.header_fault.ensures c.in_ok-header_fault.was (then_accepted c.records_fault.ensures c.in_ok-records_fault.was c.solids_fault.ensures)
