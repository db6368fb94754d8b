use native.Mathlib.Omega.{arith}
use Rattle.print.specs.Decimal.{decimal_length_small, decimal_length_more}
use Rattle.print.proofs.places.Goals as goal

pub loop-left-preserved : goal.loop-left-preserved
loop-left-preserved c = omega (arith, decimal_length_more _ c.loop-left-test.true)

pub returns : goal.returns
returns c = omega (arith, decimal_length_small _ c.loop-left-test.false)
