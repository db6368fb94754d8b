-- The line, the rows and the last line, one after the other.
use Rattle.print_answers.specs.Laws.{lent_put}
use borrow.Author.Rules.{rules}
use Rattle.print_answers.proofs.lent.listed.Goals as goal

pub returns : goal.returns
returns c = search (rules, lent_put)
