-- By the three signs that the plain engine still asks for.
use mathlib.Core.Path.{◌∙◌}
use Rattle.scene.specs.Arrays.{row_in}
use Rattle.survey_sides.specs.Crossing.{crosses_pierced}
use Rattle.survey_sides.proofs.PlainSurveyor.crosses.Goals as goal

pub returns : goal.returns
returns c =
    c.crosses.ensures
    ∙ crosses_pierced c.args._n (row_in c.args.rows.now) c.requires.edge.0 c.requires.points.1 c.args.u c.args.v c.args.f c.requires.edge.1 c.requires.ends
