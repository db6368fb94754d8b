-- The line of the first two rows, and the third.
use mathlib.Core.Path.{◌∙◌}
use Rattle.survey_sides.specs.Planes.{span_of, plane_of}
use Rattle.survey_sides.proofs.planes.through.Goals as goal

pub span-requires : goal.span-requires
span-requires c = rw c.join.ensures c.requires.whole

pub returns : goal.returns
unfolding plane_of
returns c = c.span.ensures ∙ (λ i. span_of (c.join.ensures i) c.args.c)
