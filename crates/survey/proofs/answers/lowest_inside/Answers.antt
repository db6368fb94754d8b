-- The trailing zeros of a word that is not 0.
use Prim.Native.Nat.{◌+◌}
use native.Mathlib.Omega.{arith}
use borrow.Author.Tests.{eq-eqb, ne_eqb}
use lib.Count.{trailing_le, count_trailing_zeros}
use Rattle.survey_enclosed.specs.WalkProof.{told_yes, told_no}
use Rattle.survey.proofs.answers.lowest_inside.Goals as goal

pub returns-then-inside-eq0 : goal.returns-then-inside-eq0
returns-then-inside-eq0 c =
    told_yes (c.args.low + 1 + c.args.verts) (c.args.low + 1 + count_trailing_zeros 64 c.args.inside) (eq-eqb c.args.inside 0 c.if-inside-eq0.true)

pub overflow_cast-result : goal.overflow_cast-result
overflow_cast-result c = omega (arith, trailing_le 64 c.args.inside)

pub overflow_add-result-3 : goal.overflow_add-result-3
overflow_add-result-3 c = omega (arith, trailing_le 64 c.args.inside)

pub returns : goal.returns
returns c =
    told_no (c.args.low + 1 + c.args.verts) (c.args.low + 1 + count_trailing_zeros 64 c.args.inside) (ne_eqb c.args.inside 0 c.if-inside-eq0.false)
