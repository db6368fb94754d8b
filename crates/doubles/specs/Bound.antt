-- How large an expression can be: its size is at most what `bound` computes from bounds of its variables. Assumes nothing.
use Rattle.std.proofs.Common.{sym, subst, le_refl, le_trans, add-le-add, mul-le-mul}
use Rattle.std.specs.Prelude.{ℕ, ◌+◌, ◌*◌, ◌≤◌, ℤ, neg_ℤ, unsigned_abs}
use Rattle.laws.specs.Ring.{Expr, eval}
use Rattle.laws.specs.Ring.Expr.{var, lit, ◌⊕◌, ◌⊖◌, ◌⊗◌, ⊝◌}
use Rattle.laws.specs.Size.{size_neg, size_add, size_mul}

abbrev pub bound : (ℕ → ℕ) → Expr → ℕ
bound m (var i) = m i
bound m (lit c) = unsigned_abs c
bound m (⊝ e) = bound m e
bound m (e ⊕ f) = bound m e + bound m f
bound m (e ⊖ f) = bound m e + bound m f
bound m (e ⊗ f) = bound m e * bound m f

module _ (x : ℕ → ℤ) (m : ℕ → ℕ) (h : (i : ℕ) → unsigned_abs (x i) ≤ m i) where
  pub below : (e : Expr) → unsigned_abs (eval x e) ≤ bound m e
  below (var i) = h i
  below (lit c) = le_refl (unsigned_abs c)
  below (⊝ e) = subst (λ (k : ℕ). k ≤ bound m e) (sym (size_neg (eval x e))) (below e)
  below (e ⊕ f) = le_trans (size_add (eval x e) (eval x f)) (add-le-add (below e) (below f))
  below (e ⊖ f) =
      le_trans (size_add (eval x e) (neg_ℤ (eval x f)))
      (add-le-add (below e) (subst (λ (k : ℕ). k ≤ bound m f) (sym (size_neg (eval x f))) (below f)))
  below (e ⊗ f) = subst (λ (k : ℕ). k ≤ bound m e * bound m f) (sym (size_mul (eval x e) (eval x f))) (mul-le-mul (below e) (below f))
