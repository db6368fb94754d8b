-- Test by test, in the order of the definition.
use Rattle.class_read.specs.Branches.{picks}
use Rattle.std.proofs.Common.{◌≡◌, ℕ, List, [], ◌∷◌, true, false, cond, ◌||◌, leb, refl, ◌∙◌}
use Rattle.std.specs.List.{list_any}
use Rattle.off_items.specs.Numbers.{largest}
use Rattle.class_sum.specs.Merged.{reaches, sum_of}
use Rattle.class_sum.specs.Laws.{sum_of_tally}
use Rattle.class_sum.proofs.sum_of.Goals as goal

any_reaches : (l : List ℕ) → list_any (leb largest) l ≡ reaches l
unfolding reaches
any_reaches [] = refl
any_reaches (n ∷ l) = elim (leb largest n) as (λ b. (b || list_any (leb largest) l) ≡ cond b true (reaches l)) [ true ↦ refl | false ↦ any_reaches l ]

pub returns-then-r-ne0 : goal.returns-then-r-ne0
unfolding sum_of
returns-then-r-ne0 c = search (picks, sum_of_tally)

pub returns-then-r : goal.returns-then-r
unfolding sum_of
returns-then-r c = search (picks, sum_of_tally)

pub returns-then-reaches : goal.returns-then-reaches
unfolding sum_of
returns-then-reaches c = let e : c.reaches.result ≡ reaches c.args.r.totals = c.reaches.ensures ∙ any_reaches c.args.r.totals in search (picks, sum_of_tally)

pub returns : goal.returns
unfolding sum_of
returns c = let e : c.reaches.result ≡ reaches c.args.r.totals = c.reaches.ensures ∙ any_reaches c.args.r.totals in search (picks, sum_of_tally)
