-- Two comparisons.
use Rattle.class_read.specs.Totals.{is_letter}
use Rattle.laws.specs.Tests.{ands}
use Rattle.class_read.proofs.is_letter.Goals as goal

pub returns-then-c-lt65 : goal.returns-then-c-lt65
unfolding is_letter
returns-then-c-lt65 c = search ands

pub returns : goal.returns
unfolding is_letter
returns c = search ands
