-- The ends differ, and none is a corner.
use Rattle.questions.specs.Laws.{nots}
use Rattle.questions.specs.Answers.{ends_off_face}
use Rattle.kernel.proofs.points.is_clear.Goals as goal

pub returns-then-u-v : goal.returns-then-u-v
unfolding ends_off_face
returns-then-u-v c = search nots depth 14

pub returns-then-is_corner : goal.returns-then-is_corner
unfolding ends_off_face
returns-then-is_corner c = search nots depth 14

pub returns : goal.returns
unfolding ends_off_face
returns c = search nots depth 14
