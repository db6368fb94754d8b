-- The tens, and the ones behind them.
use native.Mathlib.Omega.{arith}
use Rattle.print.specs.Loops.{one_digit, digit_behind}
use Rattle.print.proofs.two_digits.Goals as goal

pub returns : goal.returns
returns c =
    digit_behind _ (omega arith) c.digit-2.ensures (one_digit _ (omega arith) c.digit.ensures c.byte-p.ensures)
    c.byte.ensures
