-- Both counts.
use Rattle.laws.specs.Tests.{ands}
use Rattle.off_scene.specs.Counts.{head_fits}
use Rattle.off_scene.proofs.counts_fit.Goals as goal

pub returns-then-not-is_within : goal.returns-then-not-is_within
unfolding head_fits
returns-then-not-is_within c = search ands depth 14

pub returns : goal.returns
unfolding head_fits
returns c = search ands depth 14
