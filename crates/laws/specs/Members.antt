-- Which entries a list has: some of two lists joined, or of a list made from numbers (`run`), is so exactly where some of their parts is.
-- Assumes nothing.
use Rattle.std.specs.Prelude.{◌≡◌, ◌⊎◌, ◌↔◌, List, [], ◌∷◌, ◌++◌, ℕ, zero, suc, ◌+◌, ◌≤◌, ◌<◌, length}
use Rattle.std.proofs.Common.{subst, inl, inr, ⊎_elim, arith}
use Rattle.std.proofs.Math.Decide.{ℕ_discrete}
use Rattle.laws.specs.Lists.{Each, Some, run}

module _ {A : Type 0} (P : A → Type 0) where
  pub some_left : (xs ys : List A) → Some P xs → Some P (xs ++ ys)
  some_left [] ys h = absurd h
  some_left (x ∷ xs) ys (inl p) = inl p
  some_left (x ∷ xs) ys (inr h) = inr (some_left xs ys h)

  pub some_right : (xs ys : List A) → Some P ys → Some P (xs ++ ys)
  some_right [] ys h = h
  some_right (x ∷ xs) ys h = inr (some_right xs ys h)

  some_parts : (xs ys : List A) → Some P (xs ++ ys) → Some P xs ⊎ Some P ys
  some_parts [] ys h = inr h
  some_parts (x ∷ xs) ys (inl p) = inl (inl p)
  some_parts (x ∷ xs) ys (inr h) = ⊎_elim (λ k. inl (inr k)) inr (some_parts xs ys h)

  pub some_append : (xs ys : List A) → Some P (xs ++ ys) ↔ (Some P xs ⊎ Some P ys)
  some_append xs ys = (some_parts xs ys, ⊎_elim (some_left xs ys) (some_right xs ys))

  pub some_run : (f : ℕ → A) (k n : ℕ) → Some P (run f k n) ↔ ((i : ℕ) × ((k ≤ i) × (i < k + n)) × P (f i))
  some_run f k zero = (absurd, λ h. absurd (omega (arith, h.1)))
  some_run f k (suc n) = (
    ⊎_elim (λ p. (k, (omega arith, omega arith), p))
        (λ h. let e = (some_run f (suc k) n).0 h in (e.0, (omega (arith, e.1), omega (arith, e.1)), e.2)),
    λ h. there h (ℕ_discrete h.0 k) (some_run f (suc k) n).1,
  )
    where
      there : (h : (i : ℕ) × ((k ≤ i) × (i < k + suc n)) × P (f i)) → Dec (h.0 ≡ k) →
          ((i : ℕ) × ((suc k ≤ i) × (i < suc k + n)) × P (f i) → Some P (run f (suc k) n)) →
          P (f k) ⊎ Some P (run f (suc k) n)
      there h (yes e) next = inl (subst (λ (i : ℕ). P (f i)) e h.2)
      there h (no d) next = inr (next (h.0, (omega (arith, h.1), omega (arith, h.1)), h.2))

  pub some_length : (l : List A) → Some P l → 0 < length l
  some_length [] h = absurd h
  some_length (x ∷ l) h = omega arith

  -- what each entry is, one that stands in the list is
  pub each_of : (l : List A) → Each P l → (x : A) → Some (λ y. y ≡ x) l → P x
  each_of [] h x e = absurd e
  each_of (y ∷ l) h x (inl e) = subst P e h.0
  each_of (y ∷ l) h x (inr e) = each_of l h.1 x e
