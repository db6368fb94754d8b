-- The digits, and the place behind them.
use mathlib.Core.Path.{refl}
use Rattle.print.specs.Loops.{number_put}
use Rattle.print.proofs.many_digits.Goals as goal

pub returns : goal.returns
returns c =
    number_put _ c.digits.ensures c.places-k.ensures refl c.after.ensures
