use Prim.Native.Nat.{◌-◌}
use native.Mathlib.Omega.{arith}
use mathlib.Core.Path.{refl, ap}
use mathlib.Core.List.{List}
use lib.Bits.{and_le_r}
use lib.Count.{trailing_le}
use Rattle.laws.specs.Walk.{walk_less}
use Rattle.questions.specs.Hits.{view_in}
use Rattle.questions.specs.First.{first_of}
use Rattle.survey_edges.specs.Table.{Entry}
use Rattle.survey_first.specs.First.{hits_of, left_own, left_found, left_more, left_end}
use borrow.Author.Rules.{rules}
use Rattle.survey_first.proofs.first.first_of_vertex.Goals as goal

pub loop-left-init : goal.loop-left-init
loop-left-init g c =
    let v = view_in c.args.n c.args.rows.now c.args.corners.now in
    (search rules, omega arith, ap (λ (l : List Entry). first_of (hits_of v c.args.k l)) c.requires.solid.2.edges)

pub overflow_cast-v : goal.overflow_cast-v
overflow_cast-v g c = omega (arith, trailing_le 64 c.loop-left.left)

pub overflow_add-v-in-loop-left : goal.overflow_add-v-in-loop-left
overflow_add-v-in-loop-left g c = omega (arith, trailing_le 64 c.loop-left.left, c.requires.solid.0.vertices.1)

pub first_of_edge-found-requires : goal.first_of_edge-found-requires
first_of_edge-found-requires g c =
    let v = view_in c.args.n c.args.rows.now c.args.corners.now in
    let t = left_own v c.args.k c.args.u c.loop-left.left c.requires.solid.0 c.requires.solid.1 c.requires.solid.2 c.loop-left.invariant.1 (omega arith) in
    record { solid = c.requires.solid.0; edge = (c.requires.solid.1, t, omega arith); sides = c.requires.sides }

pub returns-in-Some : goal.returns-in-Some
returns-in-Some g c =
    let v = view_in c.args.n c.args.rows.now c.args.corners.now in
    search
    (left_found v c.args.k c.args.u c.loop-left.left (omega arith) c.loop-left.invariant.0 refl c.first_of_edge-found.ensures
    c.loop-left.invariant.2)

pub loop-left-smaller : goal.loop-left-smaller
loop-left-smaller g c = walk_less c.loop-left.left (omega arith)

pub loop-left-preserved : goal.loop-left-preserved
loop-left-preserved g c =
    let v = view_in c.args.n c.args.rows.now c.args.corners.now in (
      omega (arith, and_le_r c.loop-left.left (c.loop-left.left - 1)),
      omega (arith, and_le_r c.loop-left.left (c.loop-left.left - 1)),
      search
          (left_more v c.args.k c.args.u c.loop-left.left (omega arith) c.loop-left.invariant.0 refl c.first_of_edge-found.ensures
          c.loop-left.invariant.2),
    )

pub returns : goal.returns
returns g c = search left_end
