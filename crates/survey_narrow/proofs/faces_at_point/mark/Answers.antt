-- One bit is joined to the word.
use native.Mathlib.Omega.{arith}
use Rattle.survey_narrow.specs.Marks.{mark_is}
use Rattle.survey_narrow.proofs.faces_at_point.mark.Goals as goal

pub returns : goal.returns
returns c = mark_is _ _ _ _ (omega arith)
