-- Two stores in each table.
use Rattle.survey_masks.specs.Store.{pair_set}
use borrow.Author.Rules.{rules}
use Rattle.survey_masks.proofs.put_edge.Goals as goal

pub returns : goal.returns
unfolding pair_set
returns c = search rules
