-- `orient::ones::seen` meets its contract: it is the one row less the other, within the limits. Assumes nothing.
use mathlib.Core.Path.{◌∙◌}
use Rattle.orient.specs.Minors.{row_minus}
use Rattle.orient.specs.OnesSizes.{seen_less}
use Rattle.orient.proofs.ones.direction.Goals as goal

pub row_minus-requires : goal.row_minus-requires
row_minus-requires c =
    rw (c.shifted.ensures, c.shifted-2.ensures) (seen_less c.requires.0 c.requires.1 c.args.s)

pub returns : goal.returns
returns c = c.row_minus.ensures ∙ (λ i. row_minus (c.shifted.ensures i) (c.shifted-2.ensures i))
