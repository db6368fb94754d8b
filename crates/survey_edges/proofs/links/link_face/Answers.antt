-- The word of the three corners joins that of each.
use Rattle.survey_edges.specs.Links.{links_face}
use Rattle.survey_edges.proofs.links.link_face.Goals as goal

pub returns : goal.returns
returns c =
    links_face _ _ _ c.requires.1 c.requires.2 c.requires.0 c.bit.ensures c.bit-2.ensures c.bit-3.ensures
    c.join.ensures c.join-2.ensures c.join-3.ensures
