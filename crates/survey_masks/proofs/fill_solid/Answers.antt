use mathlib.Core.Path.{◌≡◌}
use native.Mathlib.Omega.{arith}
use Rattle.questions.specs.Hits.{view_in}
use Rattle.survey_edges.specs.Edges.{solid_edges}
use Rattle.survey_edges.proofs.Room.{room}
use Rattle.survey_masks.specs.Store.{filled_none, filled_more}
use Rattle.survey_masks.proofs.fill_solid.Goals as goal

pub loop-i-init : goal.loop-i-init
loop-i-init g c = filled_none _ _ _

pub fill_vertex-c-requires : goal.fill_vertex-c-requires
fill_vertex-c-requires g c =
    let v = view_in c.args.n c.args.rows.now c.args.corners.now in
    let r = room v c.args.k c.requires.solid.0 c.loop-i.i (omega arith) in record {
      solid = (c.requires.solid.0.sound, c.requires.solid.1, omega arith);
      room =
          (omega (arith, c.loop-i.invariant.ends_size), omega (arith, c.loop-i.invariant.masks_size), omega (arith, c.loop-i.invariant.count, r));
      sides = c.requires.sides;
    }

pub loop-i-preserved : goal.loop-i-preserved
loop-i-preserved g c =
    filled_more _ _ c.loop-i.invariant c.fill_vertex-c.ensures

pub returns : goal.returns
unfolding solid_edges
returns g c = let e : c.loop-i.i ≡ c.args.k.verts = omega arith in rw e at c.loop-i.invariant
