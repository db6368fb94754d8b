-- "The answer is the four terms and the sign of the first that is not zero", "c3 is the product of the four weights times Psi, and Psi =
-- -(product of (later number - earlier number) over the six pairs), never 0", and the slide's rule for the last term: of every accepted
-- scene and four different points of it. The statement is `Sign`; its proof is `Sign.Proof.signs`. Assumes nothing.
use Rattle.std.specs.Prelude.{◌≡◌, ◌≢◌, ◌⊎◌, ◌↔◌, true, false, List, [], ◌∷◌, ℕ, suc, ◌+◌, ◌%◌, ℤ, pos, negsuc, neg_ℤ, ◌-ℤ◌, ◌*ℤ◌, Ok}
use Rattle.scene.specs.View.{view_of}
use Rattle.scene.specs.declared.Row.{Row}
use Rattle.judge.specs.Judge.{judged}
use Rattle.orient.specs.Slide.{out_of_order, negative_weights}
use Rattle.orient.specs.Terms.{point_at, positive_at, terms_at}
use Rattle.orient.specs.declared.Terms.{Terms}
use Rattle.theorem_demands.specs.Words.{FourPoints, TwoAlike}

abbrev pub Positive : ℤ → Type 0
Positive z = (n : ℕ) × (z ≡ pos (suc n))

abbrev pub Negative : ℤ → Type 0
Negative z = (n : ℕ) × (z ≡ negsuc n)

-- the first number that is not zero is so
abbrev pub FirstIs : (ℤ → Type 0) → List ℤ → Type 0
FirstIs P [] = ⊥
FirstIs P (z ∷ l) = P z ⊎ ((z ≡ pos 0) × FirstIs P l)

abbrev pub four : Terms → List ℤ
four t = t.c0 ∷ t.c1 ∷ t.c2 ∷ t.c3 ∷ []

-- of the numbers i, j, k, l in the order asked
abbrev pub Psi : (i j k l : ℕ) → ℤ
Psi i j k l =
    neg_ℤ ((pos j -ℤ pos i) *ℤ (pos k -ℤ pos i) *ℤ (pos l -ℤ pos i) *ℤ (pos k -ℤ pos j) *ℤ (pos l -ℤ pos j) *ℤ (pos l -ℤ pos k))

pub record SignIs (row : ℕ → Row) (a b c d : ℕ) : Type 0 where
  pub last : (terms_at row a b c d).c3 ≢ pos 0
  pub plus : (positive_at row a b c d ≡ true) ↔ FirstIs Positive (four (terms_at row a b c d))
  pub minus : (positive_at row a b c d ≡ false) ↔ FirstIs Negative (four (terms_at row a b c d))
  pub product : (row a).w ≢ pos 0 → (row b).w ≢ pos 0 → (row c).w ≢ pos 0 → (row d).w ≢ pos 0 →
      (terms_at row a b c d).c3 ≡ (row a).w *ℤ (row b).w *ℤ (row c).w *ℤ (row d).w *ℤ Psi a b c d
  -- pairs of numbers that are out of order, and negative weights
  pub slide : Positive (terms_at row a b c d).c3 ↔
      ((out_of_order (point_at row a) (point_at row b) (point_at row c) (point_at row d)
      + negative_weights (point_at row a) (point_at row b) (point_at row c) (point_at row d)) % 2 ≡ 1)

abbrev pub Sign : Type 0
Sign = (s : List ℕ) → judged s ≡ Ok tt → (a b c d : ℕ) → FourPoints s a b c d → ¬ TwoAlike a b c d → SignIs (view_of s).row a b c d
