-- By its two words.
use Rattle.print_answers.specs.Laws.{words_are}
use borrow.Author.Rules.{rules}
use Rattle.print_answers.proofs.faces.Goals as goal

pub returns : goal.returns
returns c = words_are c.args.m _ (search rules) c.mask.ensures
