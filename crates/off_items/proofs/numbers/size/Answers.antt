-- The value of the digits, which is told from the first to the last.
use Rattle.std.proofs.Common.{◌≡◌, ℕ, ◌+◌, ◌*◌, ◌-◌, ◌≤◌, List, [], ◌∷◌, refl, sym, ◌∙◌, ap, arith}
use Rattle.std.specs.List.{fold}
use Rattle.std.proofs.lemmas.Slice.{between_is}
use Rattle.off_items.specs.Numbers.{value, largest, at_most}
use Rattle.off_items.specs.Laws.{at_most_low, told_le, value_held, value_stop, size_body}
use Rattle.off_items.proofs.numbers.size.Goals as goal

told : (w : List ℕ) (n : ℕ) → n ≤ largest → fold (λ n c. at_most largest (10 * n + (c - 48))) n w ≡ at_most largest (value n w)
unfolding value
told [] n h = sym (at_most_low largest n h)
told (c ∷ w) n h = told w (at_most largest (10 * n + (c - 48))) (told_le largest (10 * n + (c - 48)) refl) ∙ value_held largest (10 * n + (c - 48)) w

pub returns-then-b-e : goal.returns-then-b-e
returns-then-b-e c =
    size_body _ _ _ _ c.body-b.ensures (c.value.ensures ∙ told _ 0 (omega arith) ∙ ap (λ w. at_most largest (value 0 w)) (between_is c.args.text.now c.body-b.result c.args.e))

pub returns : goal.returns
returns c =
    size_body _ _ _ _ c.body-b.ensures (value_stop c.args.text.now c.body-b.result c.args.e 0 refl (omega arith) c.if-b-e.false)
