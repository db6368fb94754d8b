-- Before a line's end come the bytes before the first newline.
use Rattle.std.proofs.Common.{◌≡◌, ℕ, List, cond, eqb, refl, arith, ap}
use Rattle.std.specs.List.{position_or_len}
use Rattle.std.proofs.lemmas.List.Recursion.{is_position_or_len}
use Rattle.std.proofs.lemmas.List.Sums.{prefix_len-le-length}
use Rattle.std.proofs.lemmas.Grind.{common_steps}
use Rattle.off_items.specs.Items.{newline}
use Rattle.off_items.specs.Lines.{line, line_end}
use Rattle.off_items.proofs.line_end.Goals as goal

line_is : (s : List ℕ) → line s ≡ position_or_len (λ c. eqb c newline) s
unfolding line
line_is = is_position_or_len line (λ c. eqb c newline) refl (λ c s. ap (cond (eqb c newline) 0) (omega arith))

pub returns-in-Some : goal.returns-in-Some
unfolding line_end
returns-in-Some c = grind (arith, common_steps, line_is)

pub returns-in-None : goal.returns-in-None
unfolding line_end
returns-in-None c = grind (arith, common_steps, line_is, prefix_len-le-length)
