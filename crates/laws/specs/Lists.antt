-- Lists by their entries: each is so, some is so, n of them are so; a list made from numbers (`run`), and the bridge from a fold over
-- numbers to one over such a list. Assumes nothing.
use Rattle.std.specs.Prelude.{◌≡◌, refl, ◌⊎◌, ◌↔◌, Bool, true, false, not, ◌||◌, List, [], ◌∷◌, ◌++◌, ℕ, zero, suc, ◌+◌, ◌-◌, ◌%◌, ◌≤◌, ◌<◌, length, get_or, replicate, T}
use Rattle.std.proofs.Common.{ap, ap₂, ◌∙◌, subst, inl, inr, arith}
use Rattle.std.proofs.Math.Decide.{ℕ_discrete}
use Rattle.laws.specs.Bools.{◌⊕◌}
use Rattle.laws.specs.Even.{odd, count}
use Rattle.laws.specs.Range.{fold, over, count_of, any_of, more}

module _ {A : Type 0} where
  -- each of the list is so
  abbrev pub Each : (A → Type 0) → List A → Type 0
  Each P [] = Unit {0}
  Each P (x ∷ xs) = P x × Each P xs

  -- some of the list is so
  abbrev pub Some : (A → Type 0) → List A → Type 0
  Some P [] = ⊥
  Some P (x ∷ xs) = P x ⊎ Some P xs

  -- n of the list are so
  pub data Number (P : A → Type 0) : List A → ℕ → Type 0 where
    none : Number P [] 0
    one_more : {x : A} {xs : List A} {n : ℕ} → P x → Number P xs n → Number P (x ∷ xs) (suc n)
    not_this : {x : A} {xs : List A} {n : ℕ} → (P x → ⊥) → Number P xs n → Number P (x ∷ xs) n

  -- an even number of the list are so
  abbrev pub Even : (A → Type 0) → List A → Type 0
  Even P xs = (n : ℕ) × Number P xs n × (n % 2 ≡ 0)

  pub each_map : {P Q : A → Type 0} → ((x : A) → P x → Q x) → (xs : List A) → Each P xs → Each Q xs
  each_map m [] h = tt
  each_map m (x ∷ xs) h = (m x h.0, each_map m xs h.1)

  pub each_append : (P : A → Type 0) (xs ys : List A) → Each P xs → Each P ys → Each P (xs ++ ys)
  each_append P [] ys h k = k
  each_append P (x ∷ xs) ys h k = (h.0, each_append P xs ys h.1 k)

  pub each_left : (P : A → Type 0) (xs ys : List A) → Each P (xs ++ ys) → Each P xs
  each_left P [] ys h = tt
  each_left P (x ∷ xs) ys h = (h.0, each_left P xs ys h.1)

  pub each_right : (P : A → Type 0) (xs ys : List A) → Each P (xs ++ ys) → Each P ys
  each_right P [] ys h = h
  each_right P (x ∷ xs) ys h = each_right P xs ys h.1

  pub each_at : (P : A → Type 0) (xs : List A) (d : A) → Each P xs → P d → (i : ℕ) → P (get_or xs i d)
  each_at P [] d h k i = k
  each_at P (x ∷ xs) d h k zero = h.0
  each_at P (x ∷ xs) d h k (suc i) = each_at P xs d h.1 k i

  -- m times a, read with a beyond the end
  pub replicate_at : (m i : ℕ) (a : A) → get_or (replicate m a) i a ≡ a
  replicate_at zero i a = refl
  replicate_at (suc m) zero a = refl
  replicate_at (suc m) (suc i) a = replicate_at m i a

  -- two tests that agree on the list pass at an odd number of its places alike
  pub odd_each : {P : A → Type 0} (g k : A → Bool) → ((x : A) → P x → g x ≡ k x) → (xs : List A) → Each P xs → odd g xs ≡ odd k xs
  odd_each g k e [] h = refl
  odd_each g k e (x ∷ xs) h = ap₂ ◌⊕◌ (e x h.0) (odd_each g k e xs h.1)

  -- a test that decides P counts as many
  pub number_count : (P : A → Type 0) (g : A → Bool) → ((x : A) → (g x ≡ true) ↔ P x) → (xs : List A) → Number P xs (count g xs)
  number_count P g e [] = none
  number_count P g e (x ∷ xs) = go (g x) (e x) (number_count P g e xs)
    where
      go : (b : Bool) → (b ≡ true) ↔ P x → Number P xs (count g xs) → Number P (x ∷ xs) (more b (count g xs))
      go true h n = one_more (h.0 refl) n
      go false h n = not_this (λ p. different (h.1 p)) n
        where
          different : false ≡ true → ⊥
          different e = subst (λ (b : Bool). T (not b)) e tt

  -- and there is only one such number
  pub number_once : {P : A → Type 0} {xs : List A} {m n : ℕ} → Number P xs m → Number P xs n → m ≡ n
  number_once none none = refl
  number_once (one_more p a) (one_more q b) = ap suc (number_once a b)
  number_once (one_more p a) (not_this q b) = absurd (q p)
  number_once (not_this p a) (one_more q b) = absurd (p q)
  number_once (not_this p a) (not_this q b) = number_once a b

  pub number_iff : (P : A → Type 0) (g : A → Bool) → ((x : A) → (g x ≡ true) ↔ P x) → (xs : List A) (n : ℕ) →
      (count g xs ≡ n) ↔ Number P xs n
  number_iff P g e xs n = (λ h. subst (Number P xs) h (number_count P g e xs), λ h. number_once (number_count P g e xs) h)

  pub even_iff : (P : A → Type 0) (g : A → Bool) → ((x : A) → (g x ≡ true) ↔ P x) → (xs : List A) → (count g xs % 2 ≡ 0) ↔ Even P xs
  even_iff P g e xs = (
    λ h. (count g xs, number_count P g e xs, h),
    λ h. ap (λ (n : ℕ). n % 2) (number_once (number_count P g e xs) h.1) ∙ h.2,
  )

  -- ---- f at n numbers from k on

  abbrev pub run : (ℕ → A) → (k n : ℕ) → List A
  run f k zero = []
  run f k (suc n) = f k ∷ run f (suc k) n

  pub length_run : (f : ℕ → A) (k n : ℕ) → length (run f k n) ≡ n
  length_run f k zero = refl
  length_run f k (suc n) = ap suc (length_run f (suc k) n)

  pub run_append : (f : ℕ → A) (k m n : ℕ) → run f k m ++ run f (k + m) n ≡ run f k (m + n)
  run_append f k zero n =
      let e : k + 0 ≡ k = omega arith in
      let d : 0 + n ≡ n = omega arith in
      rw (e, d)
  run_append f k (suc m) n =
      let e : k + suc m ≡ suc k + m = omega arith in
      let d : suc m + n ≡ suc (m + n) = omega arith in
      rw (e, d) (ap (λ (l : List A). f k ∷ l) (run_append f (suc k) m n))

  pub run_at : (f : ℕ → A) (k n i : ℕ) (d : A) → i < n → get_or (run f k n) i d ≡ f (k + i)
  run_at f k zero i d h = absurd (omega arith)
  run_at f k (suc n) zero d h = ap f (omega arith)
  run_at f k (suc n) (suc i) d h = run_at f (suc k) n i d (omega arith) ∙ ap f (omega arith)

  pub run_each : (P : A → Type 0) (f : ℕ → A) (k n : ℕ) → ((i : ℕ) → k ≤ i → i < k + n → P (f i)) → Each P (run f k n)
  run_each P f k zero h = tt
  run_each P f k (suc n) h = (h k (omega arith) (omega arith), run_each P f (suc k) n (λ i a b. h i (omega arith) (omega arith)))

  pub each_run : (P : A → Type 0) (f : ℕ → A) (k n : ℕ) → Each P (run f k n) → (i : ℕ) → k ≤ i → i < k + n → P (f i)
  each_run P f k zero h i a b = absurd (omega arith)
  each_run P f k (suc n) h i a b = go (ℕ_discrete k i) (each_run P f (suc k) n h.1 i)
    where
      go : Dec (k ≡ i) → (suc k ≤ i → i < suc k + n → P (f i)) → P (f i)
      go (yes e) r = rw (← e) h.0
      go (no d) r = r (omega arith) (omega arith)

  pub run_same : (f g : ℕ → A) (k n : ℕ) → ((i : ℕ) → k ≤ i → i < k + n → f i ≡ g i) → run f k n ≡ run g k n
  run_same f g k zero h = refl
  run_same f g k (suc n) h = ap₂ ◌∷◌ (h k (omega arith) (omega arith)) (run_same f g (suc k) n (λ i a b. h i (omega arith) (omega arith)))

  -- ---- a count over the numbers from k up to e, and whether one passes, over the list

  count_fold : (f : ℕ → A) (g : A → Bool) (p : ℕ → Bool) (k n : ℕ) → ((i : ℕ) → p i ≡ g (f i)) →
      fold (λ i rest. more (p i) rest) 0 k n ≡ count g (run f k n)
  count_fold f g p k zero h = refl
  count_fold f g p k (suc n) h = ap₂ more (h k) (count_fold f g p (suc k) n h)

  pub count_run : (f : ℕ → A) (g : A → Bool) (p : ℕ → Bool) (k e n : ℕ) → e - k ≡ n → ((i : ℕ) → p i ≡ g (f i)) →
      count_of p k e ≡ count g (run f k n)
  unfolding count_of over
  count_run f g p k e n s h = rw (s) (count_fold f g p k n h)

  any_fold : (P : A → Type 0) (f : ℕ → A) (p : ℕ → Bool) (k n : ℕ) → ((i : ℕ) → p i ≡ true → P (f i)) →
      fold (λ i rest. p i || rest) false k n ≡ true → Some P (run f k n)
  any_fold P f p k zero h e = absurd (subst (λ (b : Bool). T (not b)) e tt)
  any_fold P f p k (suc n) h e = step (p k) (h k) (any_fold P f p (suc k) n h) e
    where
      step : {X Y : Type 0} (b : Bool) {c : Bool} → (b ≡ true → X) → (c ≡ true → Y) → (b || c) ≡ true → X ⊎ Y
      step true x y e = inl (x refl)
      step false x y e = inr (y e)

  fold_any : (P : A → Type 0) (f : ℕ → A) (p : ℕ → Bool) (k n : ℕ) → ((i : ℕ) → P (f i) → p i ≡ true) → Some P (run f k n) →
      fold (λ i rest. p i || rest) false k n ≡ true
  fold_any P f p k zero h e = absurd e
  fold_any P f p k (suc n) h (inl x) = rw (h k x)
  fold_any P f p k (suc n) h (inr x) = step (p k) (fold_any P f p (suc k) n h x)
    where
      step : (b : Bool) {c : Bool} → c ≡ true → (b || c) ≡ true
      step true e = refl
      step false e = e

  pub any_iff : (P : A → Type 0) (f : ℕ → A) (p : ℕ → Bool) (k e n : ℕ) → e - k ≡ n → ((i : ℕ) → (p i ≡ true) ↔ P (f i)) →
      (any_of p k e ≡ true) ↔ Some P (run f k n)
  unfolding any_of over
  any_iff P f p k e n s h = rw (s) (any_fold P f p k n (λ i. (h i).0), fold_any P f p k n (λ i. (h i).1))
