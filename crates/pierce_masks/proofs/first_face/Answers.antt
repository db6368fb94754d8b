-- The trailing zeros are those of the first word that is not 0, at most 64.
use native.Mathlib.Omega.{arith}
use lib.Count.{trailing_le}
use borrow.Author.Rules.{rules}
use Rattle.pierce_masks.specs.Faces.{first_low, first_high}
use Rattle.pierce_masks.proofs.first_face.Goals as goal

pub overflow_cast-result : goal.overflow_cast-result
overflow_cast-result c = omega (arith, trailing_le 64 c.args.m.low)

pub returns-then-m-ne0 : goal.returns-then-m-ne0
returns-then-m-ne0 c = first_low c.args.m (search rules) c.if-m-ne0.true

pub overflow_cast-result-2 : goal.overflow_cast-result-2
overflow_cast-result-2 c = omega (arith, trailing_le 64 c.args.m.high)

pub overflow_add-result : goal.overflow_add-result
overflow_add-result c = omega (arith, trailing_le 64 c.args.m.high)

pub returns : goal.returns
returns c = first_high c.args.m c.if-m-ne0.false
