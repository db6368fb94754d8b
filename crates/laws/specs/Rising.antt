-- Lists that rise: each entry comes before all that stand behind it, so that none stands twice. And an order of numbers in a row: by the
-- first in which they differ. Assumes nothing.
use Rattle.std.specs.Prelude.{◌≡◌, ◌⊎◌, List, [], ◌∷◌, ◌++◌, ℕ, ◌<◌}
use Rattle.std.proofs.Common.{subst, inl, inr, arith}
use Rattle.laws.specs.Lists.{Each, Some, Number, none, one_more, not_this, each_append}
use Rattle.laws.specs.Members.{each_of}

-- ---- numbers in a row

abbrev pub Less : List ℕ → List ℕ → Type 0
Less [] m = ⊥
Less (a ∷ l) [] = ⊥
Less (a ∷ l) (b ∷ m) = (a < b) ⊎ ((a ≡ b) × Less l m)

pub less_never : (l : List ℕ) → Less l l → ⊥
less_never [] h = h
less_never (a ∷ l) (inl h) = omega arith
less_never (a ∷ l) (inr h) = less_never l h.1

pub less_back : (l m : List ℕ) → Less l m → Less m l → ⊥
less_back [] m h k = h
less_back (a ∷ l) [] h k = h
less_back (a ∷ l) (b ∷ m) (inl h) (inl k) = omega arith
less_back (a ∷ l) (b ∷ m) (inl h) (inr k) = omega (arith, k.0)
less_back (a ∷ l) (b ∷ m) (inr h) (inl k) = omega (arith, h.0)
less_back (a ∷ l) (b ∷ m) (inr h) (inr k) = less_back l m h.1 k.1

-- ---- each of the list comes before all that stand behind it

module _ {A : Type 0} where
  abbrev pub Rising : (A → A → Type 0) → List A → Type 0
  Rising R [] = Unit {0}
  Rising R (x ∷ xs) = Each (R x) xs × Rising R xs

  module _ (R : A → A → Type 0) where
    pub rising_append : (xs ys : List A) → Rising R xs → Rising R ys → Each (λ x. Each (R x) ys) xs → Rising R (xs ++ ys)
    rising_append [] ys h k c = k
    rising_append (x ∷ xs) ys h k c = (each_append (R x) xs ys h.0 c.0, rising_append xs ys h.1 k c.1)

    -- by another order, which follows for the entries that are P
    pub rising_map : (S : A → A → Type 0) (P : A → Type 0) → ((x y : A) → P x → P y → R x y → S x y) →
        (l : List A) → Each P l → Rising R l → Rising S l
    rising_map S P m [] h r = tt
    rising_map S P m (x ∷ l) h r = (both l h.1 r.0, rising_map S P m l h.1 r.1)
      where
        both : (l : List A) → Each P l → Each (R x) l → Each (S x) l
        both [] p e = tt
        both (y ∷ l) p e = (m x y h.0 p.0 e.0, both l p.1 e.1)

    -- nothing stands twice
    module _ (never : (x : A) → R x x → ⊥) where
      none_again : (x : A) (l : List A) → Each (R x) l → Number (λ y. y ≡ x) l 0
      none_again x [] h = none
      none_again x (y ∷ l) h = not_this (λ e. never x (subst (R x) e h.0)) (none_again x l h.1)

      pub rising_once : (l : List A) → Rising R l → (x : A) → Some (λ y. y ≡ x) l → Number (λ y. y ≡ x) l 1
      rising_once [] r x h = absurd h
      rising_once (y ∷ l) r x (inl e) = one_more e (subst (λ (x : A). Number (λ z. z ≡ x) l 0) e (none_again y l r.0))
      rising_once (y ∷ l) r x (inr h) =
          not_this (λ e. never x (subst (λ (y : A). R y x) e (each_of (R y) l r.0 x h))) (rising_once l r.1 x h)
