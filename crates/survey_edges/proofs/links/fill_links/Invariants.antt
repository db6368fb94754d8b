-- The words of the vertices are emptied, and then have their neighbours by the faces below f.
use Rattle.scene.specs.Arrays.{face_in}
use Rattle.survey_edges.specs.Links.{Linking}
use Rattle.survey_edges.proofs.links.fill_links.Given as goal

abbrev pub invariant-loop-f : goal.invariant-loop-f
invariant-loop-f l = Linking (face_in l.corners) l.low l.verts l.first l.f l.initial.links l.links
