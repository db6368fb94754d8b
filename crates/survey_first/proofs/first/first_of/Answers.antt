use Prim.Native.Nat.{◌+◌}
use native.Mathlib.Omega.{arith}
use Rattle.survey_edges.specs.Order.{higher}
use Rattle.questions.specs.First.{first_start, first_more}
use Rattle.questions.specs.Hits.{view_in, Own}
use Rattle.survey_first.specs.First.{all_found, all_end}
use Rattle.survey_first.proofs.first.first_of.Goals as goal

pub loop-i-init : goal.loop-i-init
loop-i-init g c = first_start _

pub first_of_vertex-found-requires : goal.first_of_vertex-found-requires
first_of_vertex-found-requires g c =
    let v = view_in c.args.n c.args.rows.now c.args.corners.now in
    let own : Own v c.args.k (c.args.k.vert0 + 1 + c.loop-i.i) = (omega arith, omega arith) in
    record { solid = (c.requires.solid.0, own, higher v c.args.k c.requires.solid.0 c.loop-i.i (omega arith) (c.requires.solid.1 _ own)); sides = c.requires.sides }

pub loop-i-preserved : goal.loop-i-preserved
loop-i-preserved g c = search first_more

pub returns-in-Some : goal.returns-in-Some
returns-in-Some g c = search all_found

pub returns : goal.returns
returns g c = search all_end
