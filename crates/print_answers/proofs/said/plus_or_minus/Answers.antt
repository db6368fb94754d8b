-- By the two cases.
use mathlib.Core.Bool.{Bool, cond}
use mathlib.Core.List.{◌∷◌}
use Rattle.print.specs.Text.{ascii}
use Rattle.print_lines.specs.Laws.{by}
use Rattle.print_answers.proofs.said.plus_or_minus.Goals as goal

pub returns-then-is_plus : goal.returns-then-is_plus
returns-then-is_plus c =
    by (λ (b : Bool). 32 ∷ cond b (ascii "+") (ascii "-"))
    c.if-is_plus.true c.next_word.ensures

pub returns : goal.returns
returns c =
    by (λ (b : Bool). 32 ∷ cond b (ascii "+") (ascii "-"))
    c.if-is_plus.false c.next_word-2.ensures
