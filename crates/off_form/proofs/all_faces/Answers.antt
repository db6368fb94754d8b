-- A count that is too large tells as much as the largest number.
use native.Mathlib.Omega.{arith}
use Rattle.off_form.proofs.Laws.{faces_held}
use Rattle.off_form.proofs.all_faces.Goals as goal

pub returns : goal.returns
returns c = faces_held _ (omega arith) _ (omega arith) _ c.requires.1.faces c.faces.ensures
