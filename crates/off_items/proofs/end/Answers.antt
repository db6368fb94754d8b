-- Of an item come first the bytes before the first that separates.
use Rattle.std.proofs.Common.{◌≡◌, ℕ, List, cond, refl, arith, ap}
use Rattle.std.specs.List.{position_or_len}
use Rattle.std.proofs.lemmas.List.Recursion.{is_position_or_len}
use Rattle.std.proofs.lemmas.List.Sums.{prefix_len-le-length}
use Rattle.std.proofs.lemmas.Grind.{common_steps}
use Rattle.off_items.specs.Items.{separates, word, word_end}
use Rattle.off_items.proofs.end.Goals as goal

word_is : (s : List ℕ) → word s ≡ position_or_len separates s
unfolding word
word_is = is_position_or_len word separates refl (λ c s. ap (cond (separates c) 0) (omega arith))

pub returns-in-Some : goal.returns-in-Some
unfolding word_end
returns-in-Some c = grind (arith, common_steps, word_is)

pub returns-in-None : goal.returns-in-None
unfolding word_end
returns-in-None c = grind (arith, common_steps, word_is, prefix_len-le-length)
