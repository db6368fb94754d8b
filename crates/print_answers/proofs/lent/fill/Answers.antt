use Rattle.print_answers.specs.Laws.{fill_none, fill_more}
use borrow.Author.Rules.{rules}
use Rattle.print_answers.proofs.lent.fill.Goals as goal

pub loop-i-preserved : goal.loop-i-preserved
loop-i-preserved c =
    search (rules, fill_more)

pub loop-i-init : goal.loop-i-init
loop-i-init c = search (rules, fill_none)
