-- Each turn stores the edges from one vertex more.
use Prim.Native.Nat.{◌+◌}
use Rattle.laws.specs.Runs.{up_to}
use Rattle.questions.specs.Hits.{view_in}
use Rattle.survey_edges.specs.Edges.{vertex_edges, Filled}
use Rattle.survey_masks.proofs.fill_solid.Given as goal

abbrev pub invariant-loop-i : goal.invariant-loop-i
invariant-loop-i g l =
    Filled (up_to (λ j. vertex_edges (view_in l.n l.rows l.corners) l.k (l.k.vert0 + 1 + j)) l.i) 0 l.initial.ends l.initial.masks l.ends l.masks l.c
