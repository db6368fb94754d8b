-- The language's count of ones.
use native.Mathlib.Omega.{arith}
use lib.Count.{ones-le}
use borrow.Author.Rules.{rules}
use Rattle.survey.proofs.answers.count_inside.Goals as goal

pub overflow_cast-result : goal.overflow_cast-result
overflow_cast-result c = omega (arith, ones-le 64 c.args.inside (search rules))
