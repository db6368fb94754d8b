use native.Mathlib.Omega.{arith}
use lib.Pow.{pow_pos}
use Rattle.questions.specs.Hits.{view_in}
use Rattle.survey_enclosed.specs.WalkProof.{reached_none, reached_all}
use Rattle.survey_enclosed.specs.StepProof.{here, step_reached, step_less}
use Rattle.survey_enclosed.proofs.enclosed_word.Goals as goal

pub bit-requires : goal.bit-requires
bit-requires g c = omega (arith, c.requires.solid.0.within.sound.vertices.0)

pub overflow_sub-t : goal.overflow_sub-t
overflow_sub-t g c = omega (arith, c.bit.ensures, pow_pos c.args.k.verts)

pub loop-t-init : goal.loop-t-init
loop-t-init g c = rw c.bit.ensures (reached_none _ _)

pub start-requires : goal.start-requires
start-requires g c =
    record { solid = (c.requires.solid.0, c.loop-t.invariant, omega arith); sides = c.requires.sides }

pub step-t-requires : goal.step-t-requires
step-t-requires g c =
    let h = here (view_in c.args.n c.args.rows.now c.args.corners.now) c.args.k c.requires.solid.0 c.args.links.now
    c.args.odds.now c.requires.solid.1 c.requires.solid.2 c.start.result c.start.ensures.reached c.start.ensures.some in
    (omega (arith, h, c.requires.solid.0.within.sound.vertices.0), omega (arith, h, c.requires.solid.0.within.sound.vertices.1))

pub loop-t-smaller : goal.loop-t-smaller
loop-t-smaller g c =
    let l = step_less (view_in c.args.n c.args.rows.now c.args.corners.now) c.args.k c.requires.solid.0
    c.args.links.now c.args.odds.now c.requires.solid.1 c.requires.solid.2 c.start.result c.start.ensures.reached c.start.ensures.some in
    rw c.step-t.ensures (omega (arith, l, c.start.ensures.same))

pub loop-t-preserved : goal.loop-t-preserved
loop-t-preserved g c =
    rw c.step-t.ensures (step_reached (view_in c.args.n c.args.rows.now c.args.corners.now) c.args.k c.requires.solid.0
    c.args.links.now c.args.odds.now c.requires.solid.1 c.requires.solid.2 c.start.result c.start.ensures.reached c.start.ensures.some)

pub returns : goal.returns
returns g c = reached_all _ _ c.loop-t.invariant (omega arith)
