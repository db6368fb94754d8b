-- The word of u is written anew.
use Rattle.survey_edges.specs.Links.{ored}
use borrow.Author.Rules.{rules}
use Rattle.survey_edges.proofs.links.join.Goals as goal

pub returns : goal.returns
unfolding ored
returns c = search rules
