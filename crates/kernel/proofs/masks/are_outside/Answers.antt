-- The ends differ, and none is a vertex of the solid.
use Rattle.questions.specs.Laws.{nots}
use Rattle.questions.specs.Answers.{ends_off_solid}
use Rattle.kernel.proofs.masks.are_outside.Goals as goal

pub returns-then-u-v : goal.returns-then-u-v
unfolding ends_off_solid
returns-then-u-v c = search nots depth 14

pub returns-then-is_vertex_of : goal.returns-then-is_vertex_of
unfolding ends_off_solid
returns-then-is_vertex_of c = search nots depth 14

pub returns : goal.returns
unfolding ends_off_solid
returns c = search nots depth 14
