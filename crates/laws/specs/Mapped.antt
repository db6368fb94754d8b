-- A list mapped: what each or n of its entries are, and a list made from numbers (`run`) mapped or counted from another number on.
-- Assumes nothing.
use Rattle.std.specs.Prelude.{◌≡◌, refl, ◌↔◌, List, [], ◌∷◌, map, ℕ, zero, suc, ◌+◌, ◌<◌}
use Rattle.std.proofs.Common.{ap, ap₂, ◌∙◌, arith}
use Rattle.laws.specs.Lists.{Each, Number, none, one_more, not_this, run}

module _ {A B : Type 0} (P : A → Type 0) (Q : B → Type 0) (f : A → B) where
  pub each_mapped : ((x : A) → P x → Q (f x)) → (xs : List A) → Each P xs → Each Q (map f xs)
  each_mapped m [] h = tt
  each_mapped m (x ∷ xs) h = (m x h.0, each_mapped m xs h.1)

  pub number_mapped : ((x : A) → P x ↔ Q (f x)) → {xs : List A} {n : ℕ} → Number P xs n → Number Q (map f xs) n
  number_mapped m none = none
  number_mapped m (one_more {x} p h) = one_more ((m x).0 p) (number_mapped m h)
  number_mapped m (not_this {x} p h) = not_this (λ q. p ((m x).1 q)) (number_mapped m h)

pub map_run : {A B : Type 0} (h : A → B) (f : ℕ → A) (k n : ℕ) → map h (run f k n) ≡ run (λ i. h (f i)) k n
map_run h f k zero = refl
map_run h f k (suc n) = ap (λ (l : List _). h (f k) ∷ l) (map_run h f (suc k) n)

pub run_from : {A : Type 0} (f g : ℕ → A) (k m n : ℕ) → ((i : ℕ) → i < n → f (k + i) ≡ g (m + i)) → run f k n ≡ run g m n
run_from f g k m zero h = refl
run_from f g k m (suc n) h =
    ap₂ ◌∷◌ (ap f (omega arith) ∙ h 0 (omega arith) ∙ ap g (omega arith))
    (run_from f g (suc k) (suc m) n (λ i l. ap f (omega arith) ∙ h (suc i) (omega arith) ∙ ap g (omega arith)))
