-- Formula (13) compares signs only: where the signs of all four points turn at once, or none does, an edge pierces the same faces.
-- Assumes nothing.
use Rattle.std.specs.Prelude.{◌≡◌, Bool, ◌&&◌, ℕ, ◌≤◌}
use Rattle.std.proofs.Common.{sym}
use Rattle.laws.specs.Bools.{◌⊕◌, all, ◌≐◌, law}
use Rattle.scene.specs.declared.Row.{Row}
use Rattle.scene.specs.declared.Face.{Face}
use Rattle.orient.specs.Signs.{Upto, Four, Six, ne_sym}
use Rattle.orient.specs.Terms.{positive_at}
use Rattle.pierce.specs.Formula.{helper, counts, sides_count, formula, pierces, pierced}
use Rattle.pierce.specs.Helper.{helper_found}
use Rattle.pierce.specs.Beside.{Beside}

-- t is s where turn is false, and the opposite of s where it is true, of four different points
abbrev pub Turned : (n : ℕ) (turn : Bool) (s t : ℕ → ℕ → ℕ → ℕ → Bool) → Type 0
Turned n turn s t = (a b c d : ℕ) → Four (Upto n) a b c d → t a b c d ≡ s a b c d ⊕ turn

-- the formula in eight signs, all turned by k
eight : (k au av hp hq hr bpq bqr brp : Bool) →
    (((au ⊕ k) ⊕ (av ⊕ k))
    && (counts (hp ⊕ k) (hq ⊕ k) (bpq ⊕ k) ⊕ counts (hq ⊕ k) (hr ⊕ k) (bqr ⊕ k) ⊕ counts (hr ⊕ k) (hp ⊕ k) (brp ⊕ k)))
    ≡ ((au ⊕ av) && (counts hp hq bpq ⊕ counts hq hr bqr ⊕ counts hr hp brp))
unfolding counts
eight =
    law (all λ k. all λ au. all λ av. all λ hp. all λ hq. all λ hr. all λ bpq. all λ bqr. all λ brp.
    (((au ⊕ k) ⊕ (av ⊕ k))
    && (counts (hp ⊕ k) (hq ⊕ k) (bpq ⊕ k) ⊕ counts (hq ⊕ k) (hr ⊕ k) (bqr ⊕ k) ⊕ counts (hr ⊕ k) (hp ⊕ k) (brp ⊕ k)))
    ≐ ((au ⊕ av) && (counts hp hq bpq ⊕ counts hq hr bqr ⊕ counts hr hp brp))) tt

module _ (n : ℕ) (turn : Bool) (s t : ℕ → ℕ → ℕ → ℕ → Bool) (turned : Turned n turn s t) where
  formula_turned : (u v h p q r : ℕ) → Six (Upto n) u v h p q r → formula t u v h p q r ≡ formula s u v h p q r
  unfolding formula sides_count
  formula_turned u v h p q r d =
      let e1 = turned p q r u (search ne_sym) in
      let e2 = turned p q r v (search ne_sym) in
      let e3 = turned u v h p (search) in
      let e4 = turned u v h q (search) in
      let e5 = turned u v h r (search) in
      let e6 = turned u v p q (search) in
      let e7 = turned u v q r (search) in
      let e8 = turned u v r p (search ne_sym) in
      rw (e1, e2, e3, e4, e5, e6, e7, e8)
      (eight turn (s p q r u) (s p q r v) (s u v h p) (s u v h q) (s u v h r) (s u v p q) (s u v q r) (s u v r p))

  pub pierces_turned : 6 ≤ n → (u v : ℕ) (f : Face) → Beside n u v f → pierces n t u v f ≡ pierces n s u v f
  unfolding pierces
  pierces_turned l u v f d = formula_turned u v (helper n u v f) f.p f.q f.r (helper_found n u v f l d)

-- of two scenes' rows
pub pierced_turned : (n : ℕ) (turn : Bool) (row row' : ℕ → Row) → Turned n turn (positive_at row) (positive_at row') → 6 ≤ n →
    (u v : ℕ) (f : Face) → Beside n u v f → pierced n row u v f ≡ pierced n row' u v f
pierced_turned n turn row row' h l u v f d = sym (pierces_turned n turn (positive_at row) (positive_at row') h l u v f d)
