use Rattle.std.proofs.Common.{rules, tests}
use Rattle.clean.specs.Clean.{in_plane}
use Rattle.laws.specs.Chains.{any_from_range}
use Rattle.clean.proofs.meets.Goals as goal

pub returns : goal.returns
returns c =
    any_from_range (in_plane _ _) _ _ c.any.ensures.ran (λ x b q k. search (rules, tests))
