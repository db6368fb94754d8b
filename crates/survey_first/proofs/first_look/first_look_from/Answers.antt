use Prim.Native.Nat.{◌-◌}
use native.Mathlib.Omega.{arith}
use mathlib.Core.Path.{refl}
use lib.Bits.{and_le_r}
use Rattle.questions.specs.Hits.{view_in}
use Rattle.survey_first.specs.First.{left_own, left_found, left_more}
use Rattle.survey_first.proofs.first_look.first_look_from.Goals as goal

pub first_look_at-found-requires : goal.first_look_at-found-requires
first_look_at-found-requires g c =
    let v = view_in c.args.n c.args.rows.now c.args.corners.now in
    let t = left_own v c.args.k c.args.u c.loop.left c.requires.solid.0 c.requires.vertex.0 c.requires.vertex.1 c.loop.invariant.1 (omega arith) in
    record { solid = c.requires.solid; edge = (c.requires.vertex.0, t, omega arith); sides = (c.requires.sides.0, c.loop.invariant.3) }

pub returns-in-Some : goal.returns-in-Some
returns-in-Some g c =
    let v = view_in c.args.n c.args.rows.now c.args.corners.now in (
      search (left_found v c.args.k c.args.u c.loop.left (omega arith) c.loop.invariant.0 refl c.first_look_at-found.ensures.0
          c.loop.invariant.2),
      c.first_look_at-found.ensures.1,
    )

pub loop-preserved : goal.loop-preserved
loop-preserved g c =
    let v = view_in c.args.n c.args.rows.now c.args.corners.now in (
      omega (arith, and_le_r c.loop.left (c.loop.left - 1)),
      omega (arith, and_le_r c.loop.left (c.loop.left - 1)),
      search
          (left_more v c.args.k c.args.u c.loop.left (omega arith) c.loop.invariant.0 refl c.first_look_at-found.ensures.0
          c.loop.invariant.2),
      c.first_look_at-found.ensures.1,
    )
