-- `orient::ones::part` meets its contract: within the limits the three directions form no number that is too large. Assumes nothing.
use mathlib.Core.Path.{◌∙◌}
use Rattle.laws.specs.Size.{called}
use Rattle.orient.specs.Minors.{triple_product}
use Rattle.orient.specs.Ones.{directions_part}
use Rattle.orient.specs.OnesSizes.{seen_formed}
use Rattle.orient.proofs.ones.part.Goals as goal

pub triple_product-requires : goal.triple_product-requires
triple_product-requires c =
    rw (c.direction.ensures, c.direction-2.ensures, c.direction-3.ensures)
    (seen_formed c.args.sa c.args.sb c.args.sc c.requires)

pub returns : goal.returns
unfolding directions_part
returns c =
    called c.triple_product.type_inv
    (c.triple_product.ensures
    ∙ (λ i. triple_product (c.direction.ensures i) (c.direction-2.ensures i) (c.direction-3.ensures i)))
