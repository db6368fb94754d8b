-- A line by what it is made of: the case that an answer came out as, a number that a call answered, a number read from its bits.
-- Assumes nothing.
use Rattle.std.specs.Prelude.{ℕ, ◌≡◌, List, ◌∷◌, ℤ}
use Rattle.std.proofs.Common.{sym, ap, subst, SFits}
use Rattle.std.specs.Int.{w64}
use Rattle.std.proofs.lemmas.Int.{to_z-of_z}
use Rattle.print.specs.Text.{decimal, signed_decimal, line}
use Rattle.print.specs.Back.{Words}
use Rattle.print.specs.Put.{Put}
use Rattle.print.specs.Size.{reread}

-- by the case x that o came out as
pub by : {A : Type 0} (f : A → List ℕ) {l : List ℕ} {at : ℕ} {m : List ℕ} {p : ℕ} {o x : A} →
    o ≡ x → Put l at (f x) m p → Put l at (f o) m p
by f {l} {at} {m} {p} e h = subst (λ (t : List ℕ). Put l at t m p) (ap f (sym e)) h

pub by_case : {A : Type 0} (f : A → Words) {l : List ℕ} {at : ℕ} {m : List ℕ} {p : ℕ} {o x : A} → o ≡ x →
    Put l at (line (f x)) m p → Put l at (line (f o)) m p
by_case f {l} {at} {m} {p} e h = subst (λ (w : Words). Put l at (line w) m p) (ap f (sym e)) h

module _ {l : List ℕ} {at : ℕ} {m : List ℕ} {p : ℕ} where
  pub number_is : {n k : ℕ} → n ≡ k → Put l at (32 ∷ decimal n) m p → Put l at (32 ∷ decimal k) m p
  number_is e h = subst (λ (k : ℕ). Put l at (32 ∷ decimal k) m p) e h

  pub signed_is : (z : ℤ) → SFits w64 z → Put l at (32 ∷ signed_decimal (reread z)) m p → Put l at (32 ∷ signed_decimal z) m p
  signed_is z fits h = subst (λ (y : ℤ). Put l at (32 ∷ signed_decimal y) m p) (to_z-of_z w64 z fits) h
