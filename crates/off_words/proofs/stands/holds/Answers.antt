use Rattle.std.proofs.Common.{◌≡◌, ℕ, List, [], ◌∷◌, ◌||◌, eqb, refl, ap, ◌∙◌}
use Rattle.std.specs.List.{list_any}
use Rattle.off_words.specs.Stands.{holds}
use Rattle.off_words.proofs.stands.holds.Goals as goal

any_is : (c : ℕ) (w : List ℕ) → list_any (λ b. eqb b c) w ≡ holds c w
unfolding holds
any_is c [] = refl
any_is c (b ∷ w) = ap (λ t. eqb b c || t) (any_is c w)

pub returns : goal.returns
returns c = c.contains.ensures.value ∙ any_is c.args.c c.args.w.now
