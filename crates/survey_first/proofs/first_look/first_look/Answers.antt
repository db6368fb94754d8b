-- What is found from the first vertex is the first of all.
use Prim.Native.Nat.{◌+◌}
use native.Mathlib.Omega.{arith}
use Rattle.questions.specs.Hits.{view_in, Own}
use Rattle.survey_first.specs.FirstLook.{side_asked, higher_first, glimpsed_first}
use borrow.Author.Rules.{rules}
use Rattle.survey_first.proofs.first_look.first_look.Goals as goal

pub returns-then-k-eq0 : goal.returns-then-k-eq0
returns-then-k-eq0 g c = (search rules, c.requires.sloped)

pub sides-m-requires : goal.sides-m-requires
sides-m-requires g c =
    let v = view_in c.args.n c.args.rows.now c.args.corners.now in
    let q = side_asked v c.args.k (c.args.k.vert0 + 1) c.requires.solid.0 c.requires.solid.1 (omega arith, omega arith) in
    record { rows = q.0; faces = q.1.0; ready = q.1.1; sloped = c.requires.sloped }

pub first_look_from-requires : goal.first_look_from-requires
first_look_from-requires g c =
    let v = view_in c.args.n c.args.rows.now c.args.corners.now in
    let own : Own v c.args.k (c.args.k.vert0 + 1) = (omega arith, omega arith) in
    record { solid = c.requires.solid; vertex = (own, higher_first v c.args.k c.requires.solid.0 (omega arith) (c.requires.links _ own)); sides = c.sides-m.ensures }

pub returns : goal.returns
returns g c =
    let v = view_in c.args.n c.args.rows.now c.args.corners.now in (
      glimpsed_first v c.args.k c.requires.solid.0 (omega arith) c.first_look_from.result c.first_look_from.ensures.0,
      c.first_look_from.ensures.1,
    )
