-- The size of the weight is held to both limits.
use Rattle.std.proofs.Common.{ℕ, ap₂, ◌∙◌, SFits, rules}
use Rattle.std.specs.Int.{w64}
use Rattle.scene.specs.Limits.{limits, within}
use Rattle.map_image.specs.Image.{weight_ok}
use Rattle.map_image.specs.Tests.{size_is}
use Rattle.map_image.proofs.rows.weight_ok.Goals as goal

pub returns : goal.returns
unfolding weight_ok
returns c =
    let f : SFits w64 c.args.r.w = search rules in
    c.is_within.ensures ∙ ap₂ (λ (l n : ℕ). within l limits.most_weight n) c.least_weight.ensures (size_is f c.size.ensures)
