-- Five signs are the formula.
use mathlib.Core.Path.{◌∙◌}
use Rattle.scene.specs.Arrays.{row_in}
use Rattle.pierce_plain.specs.Five.{five_pierce}
use Rattle.pierce_engine.proofs.PlainEngine.pierces.Goals as goal

pub returns : goal.returns
returns c =
    c.pierces.ensures ∙ five_pierce c.args.n (row_in c.args.rows.now) c.requires.edge.0 c.args.u c.args.v c.args.f c.requires.points.1 c.requires.edge.1
