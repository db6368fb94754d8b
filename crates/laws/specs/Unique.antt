-- No second answer: of a relation between what is asked and what is answered, at most one answer fits. Assumes nothing.
use Rattle.std.specs.Prelude.{◌≡◌}
use Rattle.std.proofs.Common.{sym, ◌∙◌}

-- R asked answer
abbrev pub Once : {A B : Type 0} → (A → B → Type 0) → Type 0
Once {A} {B} R = (a : A) (b c : B) → R a b → R a c → b ≡ c

-- an answer that is given by an equation has no second
pub once : {A B : Type 0} (f : A → B) → Once (λ a b. b ≡ f a)
once f a b c p q = p ∙ sym q
