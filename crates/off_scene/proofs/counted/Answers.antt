-- Counts within the limits, and then the scene of its own bytes.
use Rattle.std.proofs.Common.{ℕ, not, ap, arith}
use Rattle.std.proofs.lemmas.List.{length-replicate}
use Rattle.scene.specs.Limits.{limits, longest}
use Rattle.off_scene.specs.Counts.{fits_small}
use Rattle.off_scene.specs.Laws.{first_unfit, second_unfit, both_fit}
use Rattle.off_scene.proofs.counted.Goals as goal

pub returns-then-not-counts_fit : goal.returns-then-not-counts_fit
returns-then-not-counts_fit c = search first_unfit

pub returns-then-not-counts_fit-2 : goal.returns-then-not-counts_fit-2
returns-then-not-counts_fit-2 c = search second_unfit

pub put_scene-n-requires : goal.put_scene-n-requires
put_scene-n-requires c = (
  fits_small _ _ c.head_of-h.ensures c.counts_fit.ensures (ap not c.if-not-counts_fit.false),
  fits_small _ _ c.head_of-g.ensures c.counts_fit-2.ensures (ap not c.if-not-counts_fit-2.false),
  omega (arith, length-replicate {A = ℕ} (longest limits) 0),
)

pub returns : goal.returns
returns c = search both_fit
