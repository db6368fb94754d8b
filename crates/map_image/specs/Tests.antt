-- The tests of sizes, in the form in which a call's answer and a branch arrive. Assumes nothing.
use Rattle.std.specs.Prelude.{◌≡◌, Bool, false, ◌&&◌, ℕ, ◌≤◌, ◌<◌, leb, ℤ, nat_abs}
use Rattle.std.proofs.Common.{sym, ap, ◌∙◌, le-leb, SFits, to_z-of_z}
use Rattle.std.proofs.lemmas.Bool.{lt-leb}
use Rattle.std.specs.Int.{w64}
use Rattle.laws.specs.Size.{reread}

module _ {o : ℕ} {z : ℤ} (f : SFits w64 z) (e : o ≡ nat_abs (reread z)) where
  pub size_is : o ≡ nat_abs z
  size_is = e ∙ ap nat_abs (to_z-of_z f)

  pub over_stops : {k : ℕ} (y : Bool) → k < o → false ≡ (leb (nat_abs z) k && y)
  over_stops {k} y h = sym (ap (λ (b : Bool). b && y) (ap (λ (n : ℕ). leb n k) (sym size_is) ∙ lt-leb o k h))

  pub under_goes_on : {k : ℕ} {y w : Bool} → o ≤ k → w ≡ y → w ≡ (leb (nat_abs z) k && y)
  under_goes_on {k} {y} h p = p ∙ sym (ap (λ (b : Bool). b && y) (ap (λ (n : ℕ). leb n k) (sym size_is) ∙ le-leb o k h))

  pub under_says : (k : ℕ) → leb o k ≡ leb (nat_abs z) k
  under_says k = ap (λ (n : ℕ). leb n k) size_is

pub ruleset sized = (over_stops, under_goes_on, under_says)
