-- The lines of refusals, one by one: each has its number in its words, and counts what the tally counts in the line of that number.
-- Assumes nothing.
use Rattle.std.specs.Prelude.{◌≡◌, List, [], ◌∷◌, ◌++◌, ℕ}
use Rattle.std.proofs.Math.Path.{refl}
use Rattle.print.specs.Text.{ascii, decimal_in, decimal, line}
use Rattle.class_tally.specs.Tally.{made_by}
use Rattle.class_tally.specs.Refusals.{number_at}
use Rattle.class_print.specs.Sheet.{refused_low, refused_high}

module _ (f : ℕ → ℕ) (a p : ℕ) where
  abbrev numbered : ℕ → List ℕ
  numbered k = line (ascii "refused" ∷ decimal (number_at k) ∷ decimal (f k) ∷ [])

  pub low_numbered : refused_low (made_by f a p) ≡ numbered 5 ++ (numbered 6 ++ (numbered 7 ++ (numbered 8 ++ numbered 9)))
  unfolding decimal decimal_in
  low_numbered = refl

  pub high_numbered : refused_high (made_by f a p) ≡ numbered 10 ++ (numbered 11 ++ (numbered 12 ++ (numbered 13 ++ numbered 14)))
  unfolding decimal decimal_in
  high_numbered = refl
