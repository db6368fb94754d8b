use Prim.Native.Nat.{◌+◌, ◌-◌}
use native.Mathlib.Nat.{lt_of_le_of_lt, lt_of_lt_of_le}
use native.Mathlib.Omega.{arith}
use mathlib.Core.Path.{refl}
use lib.Bits.{and_le_r}
use lib.Count.{trailing_le}
use lib.Pow.{pow_mono}
use Rattle.laws.specs.Walk.{walk_less}
use Rattle.survey_edges.specs.Bits.{word_first}
use Rattle.questions.specs.Hits.{view_in}
use Rattle.survey_edges.specs.Order.{higher}
use Rattle.survey_masks.specs.Store.{filling_start, filling_room, filling_turn, filling_end}
use Rattle.survey_masks.proofs.fill_vertex.Goals as goal

pub overflow_add-u-2 : goal.overflow_add-u-2
overflow_add-u-2 g c = omega (arith, c.requires.solid.0.vertices.1)

pub offset_bounds-links-u : goal.offset_bounds-links-u
offset_bounds-links-u g c = omega (arith, c.requires.solid.0.vertices.1)

pub bounds-links-u : goal.bounds-links-u
bounds-links-u g c = omega (arith, c.requires.solid.0.vertices.1)

pub overflow_shr-left : goal.overflow_shr-left
overflow_shr-left g c = omega (arith, c.requires.solid.0.vertices.0)

pub loop-left-init : goal.loop-left-init
loop-left-init g c =
    let v = view_in c.args.n c.args.rows.now c.args.corners.now in
    let u = c.args.k.vert0 + 1 + c.args.i in
    let h = higher v c.args.k c.requires.solid.0 c.args.i c.requires.solid.2 (c.requires.solid.1 u (omega arith, omega arith)) in
    let few = pow_mono {i = c.args.k.vert0 + c.args.k.verts - u} {j = 64} (omega (arith, c.requires.solid.0.vertices.0)) in
    (lt_of_lt_of_le h.small few, h.small, filling_start v c.args.k u _ c.args.at _ _ h.edges)

pub overflow_cast-v : goal.overflow_cast-v
overflow_cast-v g c = omega (arith, trailing_le 64 c.loop-left.left)

pub overflow_add-v-in-loop-left : goal.overflow_add-v-in-loop-left
overflow_add-v-in-loop-left g c = omega (arith, trailing_le 64 c.loop-left.left, c.requires.solid.0.vertices.1)

pub edge_mask-m-requires : goal.edge_mask-m-requires
edge_mask-m-requires g c =
    let left = c.args.k.vert0 + c.args.k.verts - (c.args.k.vert0 + 1 + c.args.i) in
    let t = (word_first 64 left (omega (arith, c.requires.solid.0.vertices.0)) c.loop-left.invariant.1 (omega arith)).below in
    record { solid = (c.requires.solid.0, (omega arith, omega arith), (omega arith, omega (arith, t)), omega arith); sides = c.requires.sides }

pub narrow-requires : goal.narrow-requires
narrow-requires g c =
    omega (arith, c.requires.solid.0.vertices.1)

pub narrow-requires-in-loop-left : goal.narrow-requires-in-loop-left
narrow-requires-in-loop-left g c =
    omega (arith, trailing_le 64 c.loop-left.left, c.requires.solid.0.vertices.1)

pub put_edge-requires : goal.put_edge-requires
put_edge-requires g c =
    omega (arith, filling_room _ _ _ c.loop-left.left (omega arith) c.loop-left.invariant.0 c.loop-left.invariant.2)

pub overflow_add-c : goal.overflow_add-c
overflow_add-c g c =
    omega (arith, filling_room _ _ _ c.loop-left.left (omega arith) c.loop-left.invariant.0 c.loop-left.invariant.2)

pub loop-left-smaller : goal.loop-left-smaller
loop-left-smaller g c =
    walk_less c.loop-left.left (omega arith)

pub loop-left-preserved : goal.loop-left-preserved
loop-left-preserved g c =
    let r = filling_room _ _ _ c.loop-left.left (omega arith) c.loop-left.invariant.0 c.loop-left.invariant.2 in
    let v = view_in c.args.n c.args.rows.now c.args.corners.now in
    let u = c.args.k.vert0 + 1 + c.args.i in (
      omega (arith, and_le_r c.loop-left.left (c.loop-left.left - 1)),
      lt_of_le_of_lt (and_le_r c.loop-left.left (c.loop-left.left - 1)) (omega (arith, c.loop-left.invariant.1)),
      filling_turn v c.args.k u c.loop-left.left c.edge_mask-m.result (omega arith) c.loop-left.invariant.0 (omega (arith, r))
          (omega (arith, r)) refl c.edge_mask-m.ensures c.loop-left.invariant.2 c.narrow.ensures
          c.narrow-in-loop-left.ensures c.put_edge.ensures.ends_after c.put_edge.ensures.masks_after,
    )

pub returns : goal.returns
returns g c = filling_end _ _ _ (omega arith) c.loop-left.invariant.2
