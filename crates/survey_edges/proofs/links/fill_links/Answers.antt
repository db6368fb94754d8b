use native.Mathlib.Omega.{arith}
use Rattle.survey_edges.specs.Links.{linking_none, linking_more, linking_all}
use Rattle.survey_edges.proofs.links.fill_links.Goals as goal

pub loop-f-init : goal.loop-f-init
loop-f-init c = linking_none _ _ _ _ c.clear.ensures

pub loop-f-preserved : goal.loop-f-preserved
loop-f-preserved c =
    linking_more _ _ _ _ _ (omega arith) (omega arith) (c.requires.solid.0 c.loop-f.f (omega arith) (omega arith))
    c.face_in.ensures c.loop-f.invariant c.link_face.ensures

pub returns : goal.returns
returns c = linking_all _ _ _ (omega arith) c.clear.ensures c.loop-f.invariant
