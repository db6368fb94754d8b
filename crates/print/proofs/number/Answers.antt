-- One digit, or by how many there are.
use Rattle.std.proofs.Common.{rules}
use Rattle.print.specs.Loops.{one_digit}
use Rattle.print.proofs.number.Goals as goal

pub returns-then-n-lt10 : goal.returns-then-n-lt10
returns-then-n-lt10 c = search (rules, one_digit)
