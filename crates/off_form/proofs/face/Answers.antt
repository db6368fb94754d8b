-- Its size, and its corners.
use Rattle.off_form.proofs.Laws.{face_outside, face_sides, face_corners}
use Rattle.off_form.proofs.face.Goals as goal

pub returns-then-not-is_whole : goal.returns-then-not-is_whole
returns-then-not-is_whole c = search face_outside

pub returns-then-size-ne3 : goal.returns-then-size-ne3
returns-then-size-ne3 c = search face_sides

pub returns : goal.returns
returns c = search (face_corners)
