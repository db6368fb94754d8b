-- The digits decide, where there are any.
use Rattle.std.proofs.Common.{◌≡◌, ℕ, List, [], ◌∷◌, ◌&&◌, refl, ◌∙◌, ap}
use Rattle.std.specs.List.{list_all}
use Rattle.std.proofs.lemmas.Slice.{between_is}
use Rattle.off_items.specs.Numbers.{is_digit, digits}
use Rattle.off_items.specs.Laws.{whole_digits, whole_empty}
use Rattle.off_items.proofs.numbers.is_whole.Goals as goal

are_digits : (w : List ℕ) → list_all is_digit w ≡ digits w
unfolding digits
are_digits [] = refl
are_digits (c ∷ w) = ap (λ b. is_digit c && b) (are_digits w)

pub returns-then-b-e : goal.returns-then-b-e
returns-then-b-e c =
    whole_digits _ _ _ _ c.body-b.ensures c.if-b-e.true (c.digits.ensures ∙ are_digits _ ∙ ap digits (between_is c.args.text.now c.body-b.result c.args.e))

pub returns : goal.returns
returns c = search whole_empty
