-- Two words have room for two times 64 faces.
use borrow.Author.Rules.{rules}
use Rattle.pierce_masks.specs.Faces.{value_of}
use Rattle.survey_edges.specs.Entries.{words_fit}
use Rattle.survey_edges.proofs.of_words.Goals as goal

pub returns-clause-value : goal.returns-clause-value
unfolding value_of
returns-clause-value c = search rules

pub returns-clause-small : goal.returns-clause-small
unfolding value_of
returns-clause-small c = words_fit 64 c.args.low c.args.high (search rules) (search rules)
