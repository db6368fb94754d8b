-- The first two digits, and the last behind them.
use native.Mathlib.Omega.{arith}
use Rattle.print.specs.Loops.{digit_behind}
use Rattle.print.proofs.three_digits.Goals as goal

pub returns : goal.returns
returns c =
    digit_behind _ (omega arith) c.digit.ensures c.two_digits-p.ensures
    c.byte.ensures
