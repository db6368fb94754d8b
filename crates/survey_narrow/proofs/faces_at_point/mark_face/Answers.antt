-- The three corners, one after the other.
use Rattle.survey_narrow.proofs.faces_at_point.mark_face.Goals as goal

pub returns : goal.returns
returns c = cc
