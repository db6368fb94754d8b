-- A list in which each key stands an even number of times: a test of the key passes at an even number of places. Assumes nothing.
use Rattle.std.specs.Prelude.{◌≡◌, refl, Bool, true, false, not, ◌&&◌, List, [], ◌∷◌, ℕ, zero, suc, T}
use Rattle.std.proofs.Common.{sym, ap, ◌∙◌}
use Rattle.laws.specs.Range.{more}
use Rattle.laws.specs.Bools.{◌⊕◌, all, ◌≐◌, law}

-- whether g passes at an odd number of places
abbrev pub odd : {K : Type 0} → (K → Bool) → List K → Bool
odd g [] = false
odd g (k ∷ ks) = g k ⊕ odd g ks

-- one more key, in the sum of `split`
step : (e g b u v : Bool) → (T e → g ≡ b) → g ⊕ (u ⊕ (b && v)) ≡ (g && not e) ⊕ u ⊕ (b && (e ⊕ v))
step true g b u v h = rw (h tt) (law (all λ b. all λ u. all λ v. b ⊕ (u ⊕ (b && v)) ≐ (b && false) ⊕ u ⊕ (b && not v)) tt b u v)
step false g b u v h = law (all λ g. all λ b. all λ u. all λ v. g ⊕ (u ⊕ (b && v)) ≐ (g && true) ⊕ u ⊕ (b && v)) tt g b u v

-- in `even_sum`: the first key, and the others
first : (s g o : Bool) → T s → (T g → s ⊕ o ≡ false) → g ⊕ (false ⊕ (g && o)) ≡ false
first true true o t h = h tt
first true false o t h = refl
first false g o t h = absurd t

others : (g e s o : Bool) → T (g && not e) → (T s → T e) → (T g → s ⊕ o ≡ false) → o ≡ false
others true false false o t i h = h tt
others true false true o t i h = absurd (i tt)
others true true s o t i h = absurd t
others false e s o t i h = absurd t

module _ {K : Type 0} where
  -- g where e fails, and where e passes, where g is b
  split : (g e : K → Bool) (b : Bool) → ((x : K) → T (e x) → g x ≡ b) → (ks : List K) →
      odd g ks ≡ odd (λ x. g x && not (e x)) ks ⊕ (b && odd e ks)
  split g e b h [] = law (all λ b. false ≐ b && false) tt b
  split g e b h (x ∷ ks) = rw (split g e b h ks) (step (e x) (g x) b (odd (λ x. g x && not (e x)) ks) (odd e ks) (h x))

  module _ (same : K → K → Bool) (self : (x : K) → T (same x x)) (sound : (x y : K) → T (same x y) → x ≡ y) where
    -- it is enough that each key at which g passes stands in the list an even number of times
    pub even_sum : (ks : List K) (g : K → Bool) → ((x : K) → T (g x) → odd (same x) ks ≡ false) → odd g ks ≡ false
    even_sum [] g h = refl
    even_sum (k ∷ ks) g h =
        rw (
          split g (same k) (g k) (λ x t. ap g (sym (sound k x t))) ks,
          even_sum ks (λ x. g x && not (same k x))
              (λ x t. others (g x) (same k x) (same x k) (odd (same x) ks) t (λ e. rw (sound x k e) (self k)) (h x)),
        )
        (first (same k k) (g k) (odd (same k) ks) (self k) (h k))

pub odd_add : {K : Type 0} (g k : K → Bool) (ks : List K) → odd (λ x. g x ⊕ k x) ks ≡ odd g ks ⊕ odd k ks
odd_add g k [] = refl
odd_add g k (x ∷ ks) =
    rw (odd_add g k ks)
    (law (all λ a. all λ b. all λ c. all λ d. a ⊕ b ⊕ (c ⊕ d) ≐ a ⊕ c ⊕ (b ⊕ d)) tt (g x) (k x) (odd g ks) (odd k ks))

-- at how many places g passes, and whether a number is odd
abbrev pub count : {K : Type 0} → (K → Bool) → List K → ℕ
count g [] = 0
count g (k ∷ ks) = more (g k) (count g ks)

abbrev pub odd_n : ℕ → Bool
odd_n zero = false
odd_n (suc n) = not (odd_n n)

more_odd : (b : Bool) (n : ℕ) → odd_n (more b n) ≡ b ⊕ odd_n n
more_odd true n = refl
more_odd false n = refl

pub odd_count : {K : Type 0} (g : K → Bool) (ks : List K) → odd_n (count g ks) ≡ odd g ks
odd_count g [] = refl
odd_count g (k ∷ ks) = more_odd (g k) (count g ks) ∙ ap (λ (b : Bool). g k ⊕ b) (odd_count g ks)
