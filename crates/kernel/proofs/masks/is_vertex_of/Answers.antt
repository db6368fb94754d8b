-- By the solid's own numbers.
use Rattle.questions.specs.Answers.{is_vertex_of}
use Rattle.kernel.proofs.masks.is_vertex_of.Goals as goal

pub returns : goal.returns
unfolding is_vertex_of
returns c = cc
