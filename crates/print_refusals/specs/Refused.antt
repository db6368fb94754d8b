-- The line of a refusal, by its number and its place. Assumes nothing.
use Rattle.std.specs.Prelude.{ℕ, ◌≡◌, List, [], ◌∷◌}
use Rattle.std.proofs.Common.{subst}
use Rattle.print.specs.Back.{Words}
use Rattle.print.specs.Text.{ascii, decimal}
use Rattle.print.specs.Put.{Put}

abbrev pub refused_words : (number place : ℕ) → Words
refused_words n p = ascii "refused" ∷ decimal n ∷ decimal p ∷ []

-- a number that a call answered
pub number_put : {l : List ℕ} {at : ℕ} {m : List ℕ} {p n k : ℕ} → n ≡ k → Put l at (32 ∷ decimal n) m p →
    Put l at (32 ∷ decimal k) m p
number_put {l} {at} {m} {p} e h = subst (λ (k : ℕ). Put l at (32 ∷ decimal k) m p) e h
