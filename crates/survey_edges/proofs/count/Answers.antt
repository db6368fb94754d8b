use Prim.Native.Nat.{ℕ}
use mathlib.Core.Path.{◌≡◌, refl, ap, ◌∙◌}
use mathlib.Core.List.{List}
use native.Mathlib.Omega.{arith}
use lib.Count.{ones}
use lib.ListN.{length}
use Rattle.laws.specs.Runs.{up_to, count_more}
use Rattle.survey_edges.specs.Table.{entry_in, entry_hits}
use Rattle.survey_edges.specs.Entries.{entry_most, entry_ones}
use Rattle.survey_edges.proofs.count.Goals as goal

pub loop-j-init : goal.loop-j-init
unfolding up_to
loop-j-init c = (omega arith, λ first ends. refl)

pub loop-j-preserved : goal.loop-j-preserved
loop-j-preserved c =
    let o : (first : ℕ) (ends : List ℕ) → c.ones-c.result ≡ length (entry_hits first (entry_in ends c.args.masks.now c.loop-j.j)) =
    λ first ends. c.ones-c.ensures ∙ ap ones c.mask_at.ensures.value
    ∙ entry_ones first (entry_in ends c.args.masks.now c.loop-j.j) (rw (← c.mask_at.ensures.value) c.mask_at.ensures.small) in (
      omega (arith, o 0 c.args.masks.now, entry_most 0 (entry_in c.args.masks.now c.args.masks.now c.loop-j.j)),
      λ first ends. count_more (λ i. entry_hits first (entry_in ends c.args.masks.now i)) c.loop-j.j (c.loop-j.invariant.1 first ends) (o first ends),
    )
