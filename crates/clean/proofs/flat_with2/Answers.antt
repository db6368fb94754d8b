use Rattle.std.proofs.Common.{rules, tests}
use Rattle.clean.specs.Clean.{flat_with2, flat_with3}
use Rattle.laws.specs.Chains.{any_from_range}
use Rattle.clean.proofs.flat_with2.Goals as goal

pub returns : goal.returns
unfolding flat_with2
returns c =
    any_from_range (flat_with3 _ _ _ _) _ _ c.any.ensures.ran (λ x b q k. search (rules, tests))
