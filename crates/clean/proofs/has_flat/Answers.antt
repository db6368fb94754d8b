use Rattle.std.proofs.Common.{rules, tests}
use Rattle.clean.specs.Clean.{flat_with1, has_flat}
use Rattle.laws.specs.Chains.{any_from_range}
use Rattle.clean.proofs.has_flat.Goals as goal

pub returns : goal.returns
unfolding has_flat
returns c =
    any_from_range (flat_with1 _ _) _ _ c.any.ensures.ran (λ x b q k. search (rules, tests))
