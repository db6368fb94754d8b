-- Two comparisons.
use Rattle.laws.specs.Tests.{ands}
use Rattle.off_items.specs.Numbers.{is_digit}
use Rattle.off_items.proofs.numbers.is_digit.Goals as goal

pub returns-then-c-lt48 : goal.returns-then-c-lt48
unfolding is_digit
returns-then-c-lt48 c = search ands

pub returns : goal.returns
unfolding is_digit
returns c = search ands
