-- What the listing left in front, and the filled places behind.
use Rattle.print_answers.specs.Laws.{lent_is}
use borrow.Author.Rules.{rules}
use Rattle.print_answers.proofs.lent.lend.Goals as goal

pub returns : goal.returns
returns g c = search (rules, lent_is)
