use Rattle.std.proofs.Common.{rules, tests}
use Rattle.clean.specs.Clean.{flat_with1, flat_with2}
use Rattle.laws.specs.Chains.{any_from_range}
use Rattle.clean.proofs.flat_with1.Goals as goal

pub returns : goal.returns
unfolding flat_with1
returns c =
    any_from_range (flat_with2 _ _ _) _ _ c.any.ensures.ran (λ x b q k. search (rules, tests))
