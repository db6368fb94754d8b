-- The word of p is written anew.
use Rattle.judge.specs.Words.{xored_at}
use borrow.Author.Rules.{rules}
use Rattle.judge.proofs.words.turn.Goals as goal

pub returns : goal.returns
unfolding xored_at
returns c = search rules
