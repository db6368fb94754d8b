-- `orient::minors::det` meets its contract: the minors give the expansion along the first row. Assumes nothing.
use mathlib.Core.Path.{◌∙◌}
use Rattle.laws.specs.Size.{called}
use Rattle.orient.specs.Minors.{det_of_lines, minors_are}
use Rattle.orient.proofs.minors.det.Goals as goal

pub det_of_lines-requires : goal.det_of_lines-requires
det_of_lines-requires c = rw (c.join.ensures, c.join-2.ensures) c.requires.whole

pub returns : goal.returns
returns c =
    called c.det_of_lines.type_inv
    (c.det_of_lines.ensures ∙ (λ i. det_of_lines (c.join.ensures i) (c.join-2.ensures i)) ∙ minors_are _ _ _ _)
