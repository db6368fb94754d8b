-- `orient::term3` meets its contract: c3 is the determinant of the shifts. Assumes nothing.
use mathlib.Core.Path.{sym, ◌∙◌}
use Rattle.laws.specs.Size.{called}
use Rattle.orient.specs.Columns.{c3_parts}
use Rattle.orient.proofs.term3.Goals as goal

pub returns : goal.returns
returns c = called c.part.type_inv (c.part.ensures ∙ sym (c3_parts _ _ _ _))
