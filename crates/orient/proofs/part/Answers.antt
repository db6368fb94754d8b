-- `orient::part` meets its contract: within the limits the marked rows form no number that is too large. Assumes nothing.
use mathlib.Core.Path.{◌∙◌}
use Rattle.laws.specs.Size.{called}
use Rattle.orient.specs.Determinant.{det4}
use Rattle.orient.specs.Columns.{part_of}
use Rattle.orient.proofs.Sizes.{part_formed}
use Rattle.orient.proofs.part.Goals as goal

pub det-requires : goal.det-requires
det-requires c =
    rw (
      c.shifted.ensures,
      c.shifted-2.ensures,
      c.shifted-3.ensures,
      c.shifted-4.ensures,
    )
    (part_formed c.args.sx c.args.sy c.args.sz c.requires)

pub returns : goal.returns
unfolding part_of
returns c =
    called c.det.type_inv
    (c.det.ensures
    ∙ (λ i. det4 (c.shifted.ensures i) (c.shifted-2.ensures i) (c.shifted-3.ensures i) (c.shifted-4.ensures i)))
