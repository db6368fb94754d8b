-- Each turn stores the edge of the lowest bit that is left.
use Prim.Native.Nat.{◌+◌, ◌-◌, ◌^◌, ◌<◌}
use Rattle.questions.specs.Hits.{view_in}
use Rattle.survey_edges.specs.Edges.{bit_edges, vertex_edges}
use Rattle.survey_masks.specs.Store.{Filling}
use Rattle.survey_masks.proofs.fill_vertex.Given as goal

abbrev pub invariant-loop-left : goal.invariant-loop-left
invariant-loop-left g l =
    (l.left < 2 ^ 64) × (l.left < 2 ^ (l.k.vert0 + l.k.verts - l.u))
    × Filling (bit_edges (view_in l.n l.rows l.corners) l.k l.u l.left) (vertex_edges (view_in l.n l.rows l.corners) l.k l.u) l.at l.initial.ends l.initial.masks l.ends l.masks l.c

abbrev pub decreases-loop-left : goal.decreases-loop-left
decreases-loop-left g l = l.left
