-- `orient::term0` meets its contract: c0 is the determinant of the rows as they are. Assumes nothing.
use mathlib.Core.Path.{sym, ◌∙◌}
use mathlib.Core.Bool.{false}
use Rattle.laws.specs.Size.{called}
use Rattle.orient.specs.Determinant.{det4}
use Rattle.orient.specs.Columns.{part_of, c0_parts}
use Rattle.orient.proofs.Sizes.{part_formed}
use Rattle.orient.proofs.term0.Goals as goal

pub det-requires : goal.det-requires
det-requires c =
    rw (c.row.ensures, c.row-2.ensures, c.row-3.ensures, c.row-4.ensures)
    (part_formed false false false c.requires)

pub returns : goal.returns
unfolding part_of
returns c =
    called c.det.type_inv
    (c.det.ensures
    ∙ (λ i. det4 (c.row.ensures i) (c.row-2.ensures i) (c.row-3.ensures i)
    (c.row-4.ensures i))
    ∙ sym (c0_parts _ _ _ _))
