use Rattle.std.proofs.Common.{◌≤◌, ◌<◌, refl, ◌∙◌, arith}
use Rattle.print.specs.Decimal.{decimal_some, decimal_length_small, decimal_length_more}
use Rattle.print.specs.Loops.{digit_more, digit_first}
use Rattle.print.proofs.digits.Goals as goal

pub loop-i-init : goal.loop-i-init
loop-i-init c = (refl, c.requires)

pub loop-i-preserved : goal.loop-i-preserved
loop-i-preserved c =
    let more : 10 ≤ c.loop-i.rest = grind (arith, decimal_length_small c.loop-i.rest) in (
      digit_more _ _ _ _ more (omega arith) c.digit.ensures c.store.ensures ∙ c.loop-i.invariant.0,
      omega (arith, decimal_length_more _ more),
    )

pub digit-requires-2 : goal.digit-requires-2
digit-requires-2 c = grind (arith, decimal_length_more, decimal_some)

pub returns : goal.returns
returns c =
    let last : c.loop-i.rest < 10 = grind (arith, decimal_length_more, decimal_some) in
    digit_first _ _ _ 0 last c.digit-2.ensures c.store-2.ensures ∙ c.loop-i.invariant.0
