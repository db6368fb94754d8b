-- Runs of entries one after another (`up_to`), and a run that a test lets in (`only`): how long they are, which entries they have, and when
-- they rise. Assumes nothing.
use Rattle.std.specs.Prelude.{◌≡◌, ◌↔◌, Bool, true, false, cond}
use Rattle.std.proofs.Math.Path.{refl, sym, ap, ap₂}
use Rattle.std.proofs.Common.{◌∙◌, subst}
use Rattle.std.proofs.Math.Logic.{⊎_elim}
use Rattle.std.proofs.lemmas.Bool.{false≢true}
use mathlib.Core.List.{List, [], ◌∷◌, ◌++◌, append_assoc, append-nil}
use Prim.Native.Nat.{ℕ, zero, suc, ◌+◌, ◌*◌, ◌≤◌, ◌<◌}
use native.Mathlib.Omega.{arith}
use Rattle.std.proofs.Math.Decide.{ℕ_discrete}
use Rattle.std.proofs.Math.Numerals.{add-one}
use Rattle.std.proofs.Math.Nat.{suc-mul}
use Rattle.std.proofs.Math.ListN.{length, length-append}
use Rattle.laws.specs.Lists.{Each, Some, each_map, each_append}
use Rattle.laws.specs.Members.{some_left, some_right, some_append}
use Rattle.laws.specs.Rising.{Rising, rising_append}

module _ {A : Type 0} where
  -- g 0, then g 1, and so on, n of them
  unfoldable pub up_to : (ℕ → List A) → ℕ → List A
  up_to g zero = []
  up_to g (suc n) = up_to g n ++ g n

  abbrev pub only : Bool → List A → List A
  only b l = cond b l []

  pub up_to_more : (g : ℕ → List A) (n : ℕ) → up_to g (n + 1) ≡ up_to g n ++ g n
  unfolding up_to
  up_to_more g n = rw add-one

  pub up_to_same : (g h : ℕ → List A) (n : ℕ) → ((i : ℕ) → i < n → g i ≡ h i) → up_to g n ≡ up_to h n
  unfolding up_to
  up_to_same g h zero e = refl
  up_to_same g h (suc n) e = ap₂ ◌++◌ (up_to_same g h n (λ i b. e i (omega arith))) (e n (omega arith))

  -- by the first run
  pub up_to_first : (g : ℕ → List A) (n : ℕ) → up_to g (suc n) ≡ g 0 ++ up_to (λ i. g (suc i)) n
  unfolding up_to
  up_to_first g zero = sym (append-nil (g 0))
  up_to_first g (suc n) = ap (λ (l : List A). l ++ g (suc n)) (up_to_first g n) ∙ append_assoc (g 0) (up_to (λ i. g (suc i)) n) (g (suc n))

  -- by the runs behind the first m
  pub up_to_join : (g : ℕ → List A) (m n : ℕ) → up_to g (m + n) ≡ up_to g m ++ up_to (λ j. g (m + j)) n
  unfolding up_to
  up_to_join g m zero = let e : m + 0 ≡ m = omega arith in rw e (sym (append-nil (up_to g m)))
  up_to_join g m (suc n) =
      let e : m + suc n ≡ suc (m + n) = omega arith in
      rw e (ap (λ (l : List A). l ++ g (m + n)) (up_to_join g m n) ∙ append_assoc (up_to g m) (up_to (λ j. g (m + j)) n) (g (m + n)))

  -- ---- how long

  -- at most b in each of n runs
  pub bounded : (g : ℕ → List A) (b n : ℕ) → ((i : ℕ) → length (g i) ≤ b) → length (up_to g n) ≤ n * b
  unfolding up_to
  bounded g b zero h = omega arith
  bounded g b (suc n) h = omega (arith, bounded g b n h, h n, length-append (up_to g n) (g n), suc-mul n b)

  pub only_most : (t : Bool) (l : List A) (b : ℕ) → length l ≤ b → length (only t l) ≤ b
  only_most true l b h = h
  only_most false l b h = omega arith

  -- a count of the runs so far, and of one more
  pub count_more : (g : ℕ → List A) (n : ℕ) {c d : ℕ} → c ≡ length (up_to g n) → d ≡ length (g n) → c + d ≡ length (up_to g (n + 1))
  count_more g n e f = ap₂ ◌+◌ e f ∙ sym (ap length (up_to_more g n) ∙ length-append (up_to g n) (g n))

  pub count_all : (g : ℕ → List A) {i n c : ℕ} → i ≤ n → n ≤ i → c ≡ length (up_to g i) → c ≡ length (up_to g n)
  count_all g {i} {n} a b e = let d : i ≡ n = omega arith in rw d at e

  -- equal runs of single entries have as many of them, and the same in each place
  pub run_once : (f g : ℕ → A) (n m : ℕ) → up_to (λ j. f j ∷ []) n ≡ up_to (λ j. g j ∷ []) m → (n ≡ m) × ((j : ℕ) → j < n → f j ≡ g j)
  unfolding up_to
  run_once f g zero zero e = (refl, λ j h. absurd (omega arith))
  run_once f g zero (suc m) e = let h = ap length (e ∙ up_to_first (λ j. g j ∷ []) m) in absurd (omega (arith, h))
  run_once f g (suc n) zero e = let h = ap length (sym e ∙ up_to_first (λ j. f j ∷ []) n) in absurd (omega (arith, h))
  run_once f g (suc n) (suc m) e =
      let h : f 0 ∷ up_to (λ j. f (suc j) ∷ []) n ≡ g 0 ∷ up_to (λ j. g (suc j) ∷ []) m =
      sym (up_to_first (λ j. f j ∷ []) n) ∙ e ∙ up_to_first (λ j. g j ∷ []) m in
      let first : f 0 ≡ g 0 = cc in
      let rest = run_once (λ j. f (suc j)) (λ j. g (suc j)) n m (cc) in
      (ap suc rest.0, at first rest.1)
    where
      at : f 0 ≡ g 0 → ((j : ℕ) → j < n → f (suc j) ≡ g (suc j)) → (j : ℕ) → j < suc n → f j ≡ g j
      at first rest zero b = first
      at first rest (suc j) b = rest j (omega arith)

  -- ---- which entries they have

  module _ (P : A → Type 0) where
    -- what is so of each of the runs is so of all
    pub each_up_to : (g : ℕ → List A) (n : ℕ) → ((i : ℕ) → i < n → Each P (g i)) → Each P (up_to g n)
    unfolding up_to
    each_up_to g zero h = tt
    each_up_to g (suc n) h = each_append P (up_to g n) (g n) (each_up_to g n (λ i b. h i (omega arith))) (h n (omega arith))

    pub each_only : (b : Bool) (l : List A) → Each P l → Each P (only b l)
    each_only true l h = h
    each_only false l h = tt

    -- some of them is so exactly when some of one of them is
    pub some_up_to : (g : ℕ → List A) (n : ℕ) → Some P (up_to g n) ↔ ((i : ℕ) × (i < n) × Some P (g i))
    unfolding up_to
    some_up_to g zero = (absurd, λ h. absurd (omega (arith, h.1)))
    some_up_to g (suc n) = (
      λ h. ⊎_elim (λ k. let e = (some_up_to g n).0 k in (e.0, omega (arith, e.1), e.2)) (λ k. (n, omega arith, k))
          ((some_append P (up_to g n) (g n)).0 h),
      λ h. there h (ℕ_discrete h.0 n) (some_up_to g n).1,
    )
      where
        there : (h : (i : ℕ) × (i < suc n) × Some P (g i)) → Dec (h.0 ≡ n) →
            ((i : ℕ) × (i < n) × Some P (g i) → Some P (up_to g n)) → Some P (up_to g n ++ g n)
        there h (yes e) next = some_right P (up_to g n) (g n) (subst (λ (i : ℕ). Some P (g i)) e h.2)
        there h (no d) next = some_left P (up_to g n) (g n) (next (h.0, omega (arith, h.1), h.2))

    pub some_only : (b : Bool) (l : List A) → Some P (only b l) ↔ ((b ≡ true) × Some P l)
    some_only true l = (λ h. (refl, h), λ h. h.1)
    some_only false l = (absurd, λ h. absurd (false≢true h.0))

  -- ---- they rise

  module _ (R : A → A → Type 0) where
    pub rising_only : (b : Bool) (l : List A) → Rising R l → Rising R (only b l)
    rising_only true l h = h
    rising_only false l h = tt

    -- where each run rises, and what is so (Q) of the entries of a run and of a later one tells their order
    pub rising_up_to : (g : ℕ → List A) (Q : ℕ → A → Type 0) → ((i : ℕ) → Each (Q i) (g i)) →
        ((i j : ℕ) (x y : A) → i < j → Q i x → Q j y → R x y) → ((i : ℕ) → Rising R (g i)) → (n : ℕ) → Rising R (up_to g n)
    unfolding up_to
    rising_up_to g Q q o r zero = tt
    rising_up_to g Q q o r (suc n) =
        rising_append R (up_to g n) (g n) (rising_up_to g Q q o r n) (r n)
        (each_map (λ x h. each_map (λ y k. o h.0 n x y h.1 h.2 k) (g n) (q n)) (up_to g n)
        (each_up_to (λ x. (i : ℕ) × (i < n) × Q i x) g n (λ i l. each_map (λ x k. (i, l, k)) (g i) (q i))))
