-- Each word's ones are counted, at most 64 of them.
use native.Mathlib.Omega.{arith}
use lib.Count.{ones-le}
use borrow.Author.Rules.{rules}
use Rattle.pierce_masks.specs.Faces.{both_ones}
use Rattle.pierce_masks.proofs.ones.Goals as goal

pub overflow_cast-low : goal.overflow_cast-low
overflow_cast-low c = omega (arith, ones-le 64 c.args.m.low (search rules))

pub overflow_cast-high : goal.overflow_cast-high
overflow_cast-high c = omega (arith, ones-le 64 c.args.m.high (search rules))

pub overflow_add-result : goal.overflow_add-result
overflow_add-result c =
    omega (arith, ones-le 64 c.args.m.low (search rules), ones-le 64 c.args.m.high (search rules))

pub returns : goal.returns
returns c = both_ones c.args.m (search rules)
