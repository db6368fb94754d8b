-- Piercing by five signs: the ends lie on different sides of the face, and its three sides pass the edge alike. Formula (13) is the same
-- with every helper, and so with the lowest. Assumes nothing.
use Rattle.std.specs.Prelude.{◌≡◌, Bool, not, ◌&&◌, ℕ, ◌≤◌, T}
use Rattle.std.proofs.Math.Path.{ap}
use Rattle.laws.specs.Bools.{◌⊕◌, all, ◌⇒◌, ◌≐◌, law}
use Rattle.scene.specs.declared.Face.{Face}
use Rattle.orient.specs.Signs.{Six, Upto, mixed, Rules}
use Rattle.pierce.specs.Formula.{counts, sides_count, formula, pierces, helper}
use Rattle.pierce.specs.Helper.{Five, helper_found, helper_helps}

-- the ends differ, and the three are alike
abbrev pub five : (au av bpq bqr brp : Bool) → Bool
five au av bpq bqr brp = (au ⊕ av) && not (mixed bpq bqr brp)

unfoldable pub hits : (ℕ → ℕ → ℕ → ℕ → Bool) → (u v p q r : ℕ) → Bool
hits s u v p q r = five (s p q r u) (s p q r v) (s u v p q) (s u v q r) (s u v r p)

-- of a face
abbrev pub hits_face : (ℕ → ℕ → ℕ → ℕ → Bool) → (u v : ℕ) → Face → Bool
hits_face s u v f = hits s u v f.p f.q f.r

-- under the rule of three terms an odd number of the sides count exactly where the three signs are alike
sides_alike : (hp hq hr bpq bqr brp : Bool) → T (mixed (hp ⊕ bqr) (hq ⊕ brp) (hr ⊕ bpq)) →
    counts hp hq bpq ⊕ counts hq hr bqr ⊕ counts hr hp brp ≡ not (mixed bpq bqr brp)
unfolding counts
sides_alike =
    law (all λ hp. all λ hq. all λ hr. all λ bpq. all λ bqr. all λ brp. mixed (hp ⊕ bqr) (hq ⊕ brp) (hr ⊕ bpq) ⇒
    counts hp hq bpq ⊕ counts hq hr bqr ⊕ counts hr hp brp ≐ not (mixed bpq bqr brp)) tt

module _ (n : ℕ) (s : ℕ → ℕ → ℕ → ℕ → Bool) (rules : Rules (Upto n) s) where
  pub any_helper : (u v h p q r : ℕ) → Six (Upto n) u v h p q r → formula s u v h p q r ≡ hits s u v p q r
  unfolding formula sides_count hits
  any_helper u v h p q r d =
      ap (λ (b : Bool). (s p q r u ⊕ s p q r v) && b)
      (sides_alike (s u v h p) (s u v h q) (s u v h r) (s u v p q) (s u v q r) (s u v r p) (rules.three u v h p q r d))

  module _ (u v : ℕ) (f : Face) where
    pub by_five : 6 ≤ n → Five (Upto n) u v f.p f.q f.r → pierces n s u v f ≡ hits_face s u v f
    unfolding pierces
    by_five l d = any_helper u v (helper n u v f) f.p f.q f.r (helper_found n u v f l d)

    -- where a point is known that can help
    pub by_helper : (h : ℕ) → Six (Upto n) u v h f.p f.q f.r → pierces n s u v f ≡ hits_face s u v f
    unfolding pierces
    by_helper h d = any_helper u v (helper n u v f) f.p f.q f.r (helper_helps n u v f h d)
