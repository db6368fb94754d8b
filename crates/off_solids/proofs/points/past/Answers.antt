use Rattle.off_solids.specs.ReadOf.{past_next}
use Rattle.std.proofs.Common.{◌≡◌, refl, ap, ◌∙◌, arith, rules}
use Rattle.off_solids.specs.Solid.{past}
use Rattle.off_solids.proofs.points.past.Goals as goal

pub loop-init : goal.loop-init
loop-init c = (refl, omega arith)

pub loop-preserved : goal.loop-preserved
loop-preserved c = (search (past_next, rules), omega arith)

pub returns : goal.returns
returns c =
    let e : c.loop.counter ≡ c.args.k = omega arith in
    (c.loop.invariant.0 ∙ ap (past _ _) e, omega arith)
